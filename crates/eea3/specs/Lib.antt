pub mod Eea3
