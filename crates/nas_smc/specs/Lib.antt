pub mod CoreJudging
pub mod CoreNas
pub mod NasOut
pub mod Judging
pub mod Opening
pub mod PhoneNas
