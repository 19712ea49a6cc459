pub mod Whole
pub mod Cells
pub mod Terms
pub mod Near
pub mod Quick
