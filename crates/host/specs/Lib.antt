pub mod Calls
pub mod Judged
pub mod OfRecord
