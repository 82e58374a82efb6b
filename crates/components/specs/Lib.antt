-- What the contracts of the components cite: what they leave for their callers, and the state of the walk that finds them. Nobody has to believe them: the calls' promises do not name them.
pub mod Leads
pub mod Walk
