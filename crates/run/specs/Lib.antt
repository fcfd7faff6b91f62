pub mod Limits
pub mod Run
pub mod Records
pub mod Layout
pub mod State
pub mod Numbers
pub mod Text
