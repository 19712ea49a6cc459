pub mod Alpha
pub mod Example
pub mod Friction
pub mod SheetExample
pub mod Table
