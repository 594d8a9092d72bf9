pub mod HopsHold
pub mod KasmesHold
