pub mod Judged
pub mod Kept
pub mod ReadyRecord
pub mod RecordLaw
