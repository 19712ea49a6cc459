pub mod Law
pub mod Stress
pub mod Principal
pub mod Energy
