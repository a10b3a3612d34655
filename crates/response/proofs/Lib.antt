pub mod Obeyed
pub mod Sample
pub mod SameAnswer
pub mod SameSheet
pub mod Sheets
pub mod Written
