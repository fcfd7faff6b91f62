pub mod Day
pub mod Promises
pub mod Lent
pub mod Wrong
