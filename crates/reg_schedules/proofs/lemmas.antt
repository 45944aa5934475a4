-- The lemmas that crates above cite.
pub mod Known
pub mod Needed
pub mod Ran
pub mod Tails
pub mod WorldCounts
pub mod WorldEnds
pub mod WorldFits
pub mod WorldPossible
pub mod WorldRoom
pub mod WorldSent
pub mod WorldSums
