-- Said: what is said of a failure.
pub mod Said
