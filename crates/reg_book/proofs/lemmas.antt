-- The lemmas that crates above cite.
-- What the directory of accounts says of a number.
pub mod Listings
-- How many log rows and replies there are.
pub mod Logs
-- Sums over accounts, for totals.
pub mod TotalFacts
