pub mod Powers
pub mod Products
pub mod Near
pub mod Answers
