-- The laws of the walk: who reaches whom, the walk over functions, its moves over the work area, and what is read off at the end. The answers of the functions cite them.
pub mod Ways
pub mod Walking
pub mod Settling
pub mod Storing
pub mod Looking
pub mod Turning
pub mod Sweeping
pub mod Answers
pub mod Once
