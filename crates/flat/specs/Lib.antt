pub mod State
pub mod Update
