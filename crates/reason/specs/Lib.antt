pub mod Reason
pub mod Why
pub mod Told
pub mod Traced
