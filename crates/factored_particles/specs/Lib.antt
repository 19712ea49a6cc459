pub mod Factored
pub mod Step
