-- The laws that carry the rounds.
pub mod Rounds
pub mod Forcing
pub mod Sweeping
pub mod Once
