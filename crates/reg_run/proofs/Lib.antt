mod Takings
mod Ended
mod Counted
mod Dealt
