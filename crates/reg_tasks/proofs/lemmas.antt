-- The lemmas that crates above cite.
pub mod Gathering
pub mod OrderSteps
pub mod Placing
pub mod Slotting
pub mod Standing
pub mod Values
