-- What a reader has to believe: one file a topic, definitions only. The laws about them are in proofs/.
pub mod Codes
pub mod Order
pub mod Rules
pub mod Rotas
pub mod Chains
pub mod Sizes
pub mod Refusals
pub mod Accepted
pub mod Promises
pub mod Answers
pub mod Outcomes
pub mod Runs
pub mod Visits
