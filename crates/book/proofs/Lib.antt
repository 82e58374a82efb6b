-- The laws of specs/, from checks in order up to the theorems; then what each way through the reader's functions shows.
pub mod Refusing
pub mod NumberLaws
pub mod BookLaws
pub mod Outcomes
pub mod GivenLists
pub mod SavedBooks
pub mod Places
pub mod BookLength
pub mod ListedBooks
pub mod Examples
pub mod NumberWays
pub mod CodesWays
pub mod ReaderWays
