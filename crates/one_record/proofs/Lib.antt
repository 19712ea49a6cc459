pub mod JudgedLaws
pub mod NotFinite
pub mod ReadyRecordLaws
pub mod RecordLaws
