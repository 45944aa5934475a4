pub mod Awaiting
pub mod Starting
pub mod Heads
pub mod Wanted
pub mod Taken
pub mod Complete
