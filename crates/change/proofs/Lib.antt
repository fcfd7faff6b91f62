pub mod Rows
pub mod ChangeLaws
pub mod Seen
pub mod Tables
mod Tidied
pub mod Chunks
