-- What a reader has to believe: what a number and a book are, which refusal is due, and the reader's promise. `Inner` is the reader's own.
pub mod Number
pub mod Checks
pub mod Promise
pub mod Saved
pub mod Listed
pub mod Inner
