-- The marked table, and what an engine is: a reader may check it against the rules, and need not believe it, since proofs/ proves every case.
pub mod Table
pub mod Engines
