pub mod Audit
pub mod Text
