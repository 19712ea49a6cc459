pub mod Called
pub mod Laws
pub mod Out
pub mod Refused
pub mod Read
