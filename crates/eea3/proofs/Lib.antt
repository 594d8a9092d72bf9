pub mod Eea3Lemmas
