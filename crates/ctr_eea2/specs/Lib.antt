pub mod Eea2
