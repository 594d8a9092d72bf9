pub mod Grammar
pub mod Contents
