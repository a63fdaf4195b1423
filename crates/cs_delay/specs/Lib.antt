-- What a delay table is, how bytes say one, and which delays it gives a machine.
pub mod Tables
pub mod Shape
pub mod Gives
pub mod Assigned
