pub mod Calls
pub mod ZoneCalls
