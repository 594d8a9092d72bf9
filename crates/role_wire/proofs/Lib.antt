pub mod FieldLaws
pub mod Layouts
pub mod Forms
pub mod SetupForm
pub mod Grammar
pub mod FrameLaws
pub mod WritingLaws
pub mod Sizes
