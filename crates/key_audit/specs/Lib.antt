pub mod Terms
pub mod Derives
pub mod Exact
pub mod Local
pub mod Text
