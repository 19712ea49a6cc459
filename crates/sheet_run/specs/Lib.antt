pub mod Run
pub mod Out
