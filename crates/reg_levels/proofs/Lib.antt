pub mod Between
pub mod Ordered
pub mod Apart
