pub mod Cipher
pub mod Keys
pub mod Seal
pub mod Open
