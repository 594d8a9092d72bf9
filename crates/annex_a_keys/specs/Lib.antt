pub mod Derived
pub mod Cell
pub mod AlgType
