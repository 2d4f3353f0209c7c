-- The laws that the proofs of this crate and of the crates above it cite.
pub mod Cases
pub mod Tables
pub mod Masks
pub mod Floats
pub mod Ranks
pub mod Fields
pub mod Places
pub mod Packed
pub mod Stores
pub mod Answers
pub mod Accepted
pub mod Depends
pub mod Counted
-- Why register 8 holds its word: nothing cites it.
pub mod Register8
