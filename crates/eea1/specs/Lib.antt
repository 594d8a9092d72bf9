pub mod Eea1
