-- The lemmas that crates above cite.
-- Whether a number is among others.
pub mod Among
-- Rising lists, and numbers counted up.
pub mod Rising
-- A rising list by recursion, from its first number on.
pub mod RisesFrom
-- What is made of chunks, one behind the other, is made of the whole list.
pub mod Chunks
