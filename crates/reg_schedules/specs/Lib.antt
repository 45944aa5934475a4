pub mod Pool
pub mod Laws
pub mod Docks
pub mod World
pub mod Schedules
pub mod Conserved
