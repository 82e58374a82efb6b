-- What the contracts of the search cite. Nobody has to believe them: the calls' promises stand in crate meaning.
pub mod State
pub mod Search
