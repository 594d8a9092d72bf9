pub mod Shelved
pub mod Networks
pub mod Settling
pub mod Enrolling
pub mod Systems
pub mod Whole
pub mod InOctets
pub mod Replies
