pub mod Nacc
pub mod Angle
pub mod Project
