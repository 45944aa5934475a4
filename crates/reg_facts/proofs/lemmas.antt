-- The lemmas that crates above cite.
-- What holds of each element, elements by their index, swaps.
pub mod Lists
-- The elements of a list, one by one from its head.
pub mod Members
-- How two numbers compare, and that no test is both true and false.
pub mod Numbers
-- How often numbers stand in a list.
pub mod Times
-- Sums over lists.
pub mod Totals
