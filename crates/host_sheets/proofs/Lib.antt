pub mod ReportWords
