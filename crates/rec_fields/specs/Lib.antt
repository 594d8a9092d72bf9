pub mod Field
pub mod Spelled
pub mod Layout
pub mod Record
pub mod Name
pub mod Form
