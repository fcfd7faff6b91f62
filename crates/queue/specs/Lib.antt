pub mod Queue
pub mod Events
pub mod Refusals
pub mod Stages
pub mod Entry
pub mod WorkedDay
