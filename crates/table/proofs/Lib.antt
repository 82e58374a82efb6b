-- The marked cases, the six idle engines, and an example of each definition.
pub mod Marked
pub mod IdleEngines
pub mod Examples
