pub mod Far
pub mod Items
pub mod Few
