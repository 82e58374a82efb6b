-- What the contracts of the replay cite. Nobody has to believe them: the calls' promises stand in crate meaning.
pub mod Replay
