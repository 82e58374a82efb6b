-- What the contracts of the rounds cite. Nobody has to believe them: the calls' promises stand in crate meaning.
pub mod Rounds
