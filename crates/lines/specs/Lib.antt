-- What a reader has to believe: which text a book has. What the text of an answer is stands in crate text.
pub mod Promise
