-- What the contracts of the lessons cite. Nobody has to believe them: the calls' promises stand in crate meaning.
pub mod Learning
