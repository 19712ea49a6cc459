pub mod Fields
pub mod Kinds
pub mod Model
pub mod Named
pub mod Ready
pub mod Rows
