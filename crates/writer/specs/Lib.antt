pub mod Writer
pub mod Reasons
