pub mod FloatOfLaw
pub mod ToFloat
pub mod Halves
