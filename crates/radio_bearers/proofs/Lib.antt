pub mod Sealing
pub mod Which
pub mod Cutting
