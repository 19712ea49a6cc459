pub mod Line
pub mod Box
pub mod DivStep
pub mod Span
pub mod Prog
pub mod Sharp
