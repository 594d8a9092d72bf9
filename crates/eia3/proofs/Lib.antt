pub mod SumLemmas
