pub mod Branches
pub mod Indexed
pub mod Update
pub mod Records
pub mod Cases
pub mod Examples
