mod Ahead
pub mod Among
mod Passed
mod Holding
mod Storing
mod Looking
