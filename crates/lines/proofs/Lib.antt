-- Laws: what the engine's answers come to as text, and that a book has one text.
pub mod Telling
pub mod Outcomes
pub mod Examples
