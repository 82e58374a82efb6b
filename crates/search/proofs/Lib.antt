-- The laws that carry the search.
pub mod Following
pub mod Searching
pub mod Noting
pub mod Settling
pub mod Writing
pub mod Once
