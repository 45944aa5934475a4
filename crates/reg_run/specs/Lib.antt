pub mod Taking
pub mod Running
