-- Laws: bytes put one after the other, the text's pieces and their lengths.
pub mod Putting
pub mod Spelling
pub mod Looping
pub mod Lengths
pub mod WrittenOut
pub mod Once
