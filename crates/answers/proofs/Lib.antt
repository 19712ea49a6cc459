pub mod Values
pub mod Sides
pub mod Before
