pub mod SuiteLemmas
