pub mod Determinants
pub mod Friction
pub mod Inner
pub mod Passes
pub mod Update
pub mod Zones
pub mod Causes
