-- The laws of the C face.
pub mod Telling
pub mod Hosting
pub mod Once
pub mod Exists
pub mod Staying
pub mod EveryRota
pub mod OwnCalls
pub mod Examples
