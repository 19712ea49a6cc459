pub mod Law
pub mod Sorting
pub mod Projection
pub mod Over
pub mod Rankine
pub mod Inner
