pub mod Axes
pub mod Record
pub mod Sheet
pub mod Surface
