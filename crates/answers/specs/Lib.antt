pub mod Refusals
pub mod Range
pub mod Answer
pub mod Before
