pub mod Order
pub mod Known
pub mod Base
pub mod Kinds
pub mod Reach
