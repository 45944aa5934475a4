-- The lemmas that crates above cite.
-- Accounts by their numbers.
pub mod Accounts
