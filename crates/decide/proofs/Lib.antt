pub mod Moves
mod Turns
mod Looks
