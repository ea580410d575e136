pub mod RowLemmas
pub mod FieldLemmas
pub mod ReadLemmas
pub mod ResultLemmas
