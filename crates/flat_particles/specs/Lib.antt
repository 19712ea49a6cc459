pub mod Layout
pub mod Pass
pub mod Law
