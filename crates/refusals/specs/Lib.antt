pub mod Refusals
pub mod Enums
pub mod Calls
pub mod Laws
pub mod Ran
pub mod Before
pub mod InParts
