pub mod Integers
pub mod Rounding
pub mod Units
pub mod Sums
pub mod Value
pub mod Fields
pub mod RootOf
pub mod WholeRoot
