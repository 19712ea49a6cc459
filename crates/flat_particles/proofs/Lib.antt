pub mod PassLaws
pub mod Refusals
pub mod Places
