pub mod BoxTables
pub mod StateLemmas
