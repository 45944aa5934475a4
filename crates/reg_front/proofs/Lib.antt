mod Ahead
mod Ends
mod Inputs
mod Offsets
mod PieceFacts
mod Reports
mod Rooms
mod Slices
