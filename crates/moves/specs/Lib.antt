-- What the contracts of the moves cite: the work area's layout, and what its tables hold. Nobody has to believe them: the calls' promises do not name them.
pub mod Layout
pub mod Lists
pub mod Walks
pub mod Area
pub mod Trials
