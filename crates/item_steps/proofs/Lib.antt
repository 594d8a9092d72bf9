pub mod OneStepMore
pub mod EachIsAStep
