pub mod NamedAccess
pub mod NamedBits
pub mod PortLaws
