-- The code by index
pub mod BringByIndex
pub mod RoundByIndex
pub mod Written
pub mod RunByIndex
pub mod Gathering
-- An answer
pub mod Answers
pub mod DocumentRows
