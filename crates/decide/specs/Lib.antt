pub mod Decide
pub mod Passing
