pub mod Back
pub mod Fitting
pub mod Hosts
pub mod Kept
pub mod Pieces
