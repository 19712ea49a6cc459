pub mod ToFloat
pub mod Halved
