pub mod Column
pub mod Joined
pub mod Reasons
pub mod Report
pub mod Whole
