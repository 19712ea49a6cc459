pub mod Patterns
pub mod Floats
pub mod Tables
pub mod Reduced
pub mod Terms
pub mod Near
pub mod Laws
