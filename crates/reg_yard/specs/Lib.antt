pub mod Parcels
pub mod Held
pub mod AtOnce
pub mod Dock
pub mod Docks
pub mod Laws
