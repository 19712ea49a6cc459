pub mod Parts
pub mod Whole
pub mod Counts
