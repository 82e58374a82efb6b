-- What a reader has to believe of the C face: the promises of the calls for C. The number and the values of each answer stand in crate numbers.
pub mod Lists
pub mod Hosts
pub mod Runs
