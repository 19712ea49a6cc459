pub mod Projection
pub mod Rankine
pub mod Project
