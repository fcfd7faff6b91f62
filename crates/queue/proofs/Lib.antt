pub mod Searches
pub mod Found
pub mod Recorded
pub mod Reported
pub mod Advanced
pub mod Replies
pub mod Opened
