pub mod PartFacts
pub mod WorldEvents
pub mod WorldPlaces
pub mod Dealing
pub mod DockRoom
