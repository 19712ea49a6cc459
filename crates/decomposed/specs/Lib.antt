pub mod Matrix
pub mod Number
pub mod Inverse
pub mod Decomposed
pub mod Rates
pub mod Formulas
