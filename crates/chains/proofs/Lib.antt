-- The laws of the chains: the ends of a step, what the marks tell, picking a rule, and the chain as it is written.
pub mod Distances
pub mod Picking
pub mod Tracing
pub mod Both
pub mod Once
