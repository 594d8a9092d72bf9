pub mod OwnItems
pub mod Through
pub mod Lost
