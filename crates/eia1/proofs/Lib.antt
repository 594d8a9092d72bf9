pub mod BlockLemmas
pub mod FieldLemmas
pub mod RowLemmas
