-- The lemmas that crates above cite.
-- Retirement rows: their numbers, and what they add to a sum.
pub mod Rows
