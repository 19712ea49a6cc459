pub mod FactoredLaws
pub mod StepLaws
pub mod Determinants
pub mod Fourteen
pub mod ReadBack
pub mod DiagonalF
pub mod StillFinite
