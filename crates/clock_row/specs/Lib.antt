pub mod Ends
pub mod Row
pub mod Seats
pub mod Steps
pub mod Tries
pub mod Turning
pub mod Words
