pub mod Views
pub mod Claims
pub mod Steps
pub mod Seats
pub mod Answers
