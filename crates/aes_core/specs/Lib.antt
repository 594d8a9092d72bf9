pub mod Field
pub mod SBox
pub mod KeyExpansion
pub mod Aes
pub mod Word
pub mod RoundTable
