pub mod Plan
pub mod Rows
pub mod Numbers
