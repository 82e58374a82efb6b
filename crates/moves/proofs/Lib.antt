-- The laws of the moves: loads after stores, ends and steps, lists, and a file for each walk. The answers of the functions cite them.
pub mod Places
pub mod Steps
pub mod Linking
pub mod Counts
pub mod Trails
pub mod Breadth
pub mod Cursors
pub mod Visiting
pub mod Spreading
pub mod Clearing
pub mod Pressing
pub mod Trying
pub mod Moving
pub mod Once
