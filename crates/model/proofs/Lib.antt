pub mod KindLaws
pub mod ReadyLaws
pub mod RowLaws
pub mod StoredFinite
