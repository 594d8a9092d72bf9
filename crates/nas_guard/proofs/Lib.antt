pub mod SealFacts
