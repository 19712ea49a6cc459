pub mod Rooms
pub mod Parts
pub mod Overflow
pub mod Fits
pub mod Updated
