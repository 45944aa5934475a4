-- The lemmas that crates above cite.
pub mod RowsFacts
pub mod Splits
