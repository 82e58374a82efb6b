-- What the contracts of the chains cite. Nobody has to believe them: the calls' promises do not name them.
pub mod Traces
