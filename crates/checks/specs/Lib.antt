-- What the checks' own functions answer. Nobody has to believe it: their promises are those of meaning.
pub mod Highest
