pub mod Puts
pub mod Stages
pub mod Cases
pub mod Reasons
pub mod Back
