pub mod Laws
pub mod Order
pub mod Halves
pub mod Cases
