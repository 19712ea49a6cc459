pub mod Axes
pub mod Matrix
pub mod Finite
pub mod Answer
pub mod Number
