pub mod FindFacts
