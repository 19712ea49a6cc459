pub mod Entries
pub mod Worked
pub mod Exp
pub mod Sinh
