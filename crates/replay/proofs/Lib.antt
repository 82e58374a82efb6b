-- The laws that carry the replay.
pub mod Replaying
pub mod Turning
pub mod Passing
pub mod Once
