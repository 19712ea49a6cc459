pub mod Constants
pub mod Floats
pub mod Power
