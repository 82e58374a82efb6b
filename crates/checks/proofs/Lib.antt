-- The laws that carry the checks.
pub mod NextRefusing
pub mod Finding
pub mod Once
