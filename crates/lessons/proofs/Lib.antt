-- The laws that carry the lessons.
pub mod Noting
pub mod Sharing
pub mod Lessons
