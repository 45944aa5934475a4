pub mod Arrows
pub mod TouchList
pub mod Plans
pub mod Orders
pub mod Laws
pub mod Ends
pub mod Touched
pub mod Runs
