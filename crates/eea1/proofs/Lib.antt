pub mod Eea1Lemmas
