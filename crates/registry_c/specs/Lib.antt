pub mod Answers
pub mod Columns
pub mod Names
pub mod Most
pub mod Next
pub mod Places
pub mod Questions
