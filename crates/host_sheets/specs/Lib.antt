pub mod Parts
pub mod Reports
pub mod Sheets
