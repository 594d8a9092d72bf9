mod BlockLemmas
pub mod StateLemmas
