pub mod Bare
pub mod Fill
pub mod Pass
pub mod Step
