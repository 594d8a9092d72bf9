pub mod Bearer
pub mod BigEndian
pub mod Header
pub mod Lengths
pub mod Ranges
