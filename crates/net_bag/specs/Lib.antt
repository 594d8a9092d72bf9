pub mod Class
pub mod Bag
pub mod Chains
