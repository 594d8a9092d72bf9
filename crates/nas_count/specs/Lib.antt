pub mod Estimate
