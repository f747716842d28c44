-- What the proofs of several functions, and of the crates above, use.
pub mod Choice
pub mod Ranges
pub mod Bodies
mod Cuts
pub mod Children
mod Rows
pub mod Refusing
pub mod Marking
pub mod Numbered
pub mod Reached
mod Parsing
pub mod Trees
mod Walking
pub mod Visiting
mod Standing
pub mod Enclosing
pub mod Dropped
mod Judging
pub mod Examining
