pub mod Day
pub mod DayFile
pub mod Logged
pub mod Played
pub mod Text
pub mod WorkedDay
