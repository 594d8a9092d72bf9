pub mod AlphaTables
pub mod BoxTables
pub mod StateLemmas
