pub mod Exponential
pub mod Remainder
pub mod Sine
pub mod SinNear
pub mod ExpNear
pub mod LogNear
pub mod ThirdsNear
pub mod SinhNear
