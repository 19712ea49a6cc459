pub mod Exactly
pub mod HostSequence
pub mod Plans
pub mod Sequence
pub mod Tallies
pub mod Words
pub mod Zones
