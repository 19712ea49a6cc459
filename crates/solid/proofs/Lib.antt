pub mod Passed
pub mod NeoHookeanStored
pub mod CorotatedStored
pub mod Numbers
pub mod Entries
pub mod Ways
pub mod Told
