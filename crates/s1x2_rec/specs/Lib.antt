pub mod Forms
pub mod Fields
pub mod Content
pub mod Spelling
pub mod Reading
