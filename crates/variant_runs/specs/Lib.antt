pub mod Original
pub mod Judged
pub mod Troubles
