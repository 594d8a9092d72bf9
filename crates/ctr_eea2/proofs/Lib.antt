pub mod CombinedLemmas
