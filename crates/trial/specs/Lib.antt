pub mod Hash
pub mod Held
