pub mod TermsOf
pub mod OneStep
pub mod Neighbours
pub mod Fitting
pub mod Exactness
pub mod Filling
pub mod Ways
