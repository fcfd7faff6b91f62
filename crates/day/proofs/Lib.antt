pub mod Days
pub mod Events
pub mod Log
pub mod Padding
pub mod Texts
pub mod Writing
