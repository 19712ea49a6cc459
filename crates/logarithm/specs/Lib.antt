pub mod Entries
pub mod Worked
pub mod Ln
