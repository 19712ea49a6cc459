pub mod Physics
pub mod Quadratic
pub mod Norm
