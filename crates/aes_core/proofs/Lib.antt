pub mod AesLemmas
pub mod Examples
pub mod FieldLemmas
pub mod KeyExpansionLemmas
pub mod SBoxTable
pub mod WordLemmas
