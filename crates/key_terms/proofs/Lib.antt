pub mod Places
pub mod LadderLemmas
pub mod Holding
pub mod Lookups
pub mod WordLemmas
