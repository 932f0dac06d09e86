pub mod Form
pub mod QueryText
