-- The laws of the definitions in specs/, and the cases that are computed.
pub mod Evaluate
pub mod Cases
pub mod FittingCases
pub mod Rounds
pub mod Tries
pub mod Within
pub mod Spans
pub mod Heads
pub mod Errors
pub mod Bits
pub mod Clauses
pub mod Tables
pub mod Outcomes
