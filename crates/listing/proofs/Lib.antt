-- The laws that the proofs of this crate and of the crates above it cite.
pub mod Digits
pub mod Names
pub mod Scans
pub mod Items
pub mod Trips
pub mod Rooms
pub mod Joins
pub mod Walks
pub mod LineRows
pub mod LineWrites
pub mod FormatTable
pub mod Readers
pub mod Writers
pub mod Reports
pub mod Programs
