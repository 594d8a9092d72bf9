pub mod Kasme
