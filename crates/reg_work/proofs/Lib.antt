pub mod Counting
pub mod Dividing
pub mod Ending
pub mod Ordered
