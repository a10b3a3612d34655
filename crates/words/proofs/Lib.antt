pub mod Alike
pub mod Known
pub mod Laws
pub mod Masks
pub mod Ops
