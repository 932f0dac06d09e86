pub mod Form
pub mod PlantText
pub mod inner
