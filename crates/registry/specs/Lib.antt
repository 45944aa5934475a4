pub mod Inputs
pub mod Program
pub mod Serving
pub mod Statuses
pub mod Words
