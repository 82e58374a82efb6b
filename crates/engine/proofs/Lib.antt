-- The laws that carry the engine's calls.
pub mod Fronts
pub mod Answering
pub mod EveryRota
pub mod Visiting
pub mod Meaning
pub mod Whole
