pub mod Answers
pub mod Folds
pub mod Heard
