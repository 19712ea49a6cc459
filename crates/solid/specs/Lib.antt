pub mod OfRecord
pub mod Judged
pub mod NeoHookean
pub mod Corotated
pub mod Told
