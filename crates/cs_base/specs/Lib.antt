pub mod Parts
pub mod Formulas
pub mod Derivations
pub mod Ranges
