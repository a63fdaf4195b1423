pub mod Slots
pub mod Layout
pub mod Clock
pub mod Start
pub mod Simulation
