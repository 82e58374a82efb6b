-- What the program reads, and what it writes for it.
pub mod Answer
