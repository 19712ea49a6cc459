pub mod Table
pub mod SheetExample
