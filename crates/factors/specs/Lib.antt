pub mod Turns
pub mod Sweeps
pub mod Check
pub mod PrincipalValues
pub mod Answers
pub mod Diagonal
