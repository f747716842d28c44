-- Document 01's words.
pub mod Limits
pub mod Nodes
pub mod Kinds
pub mod Trees
pub mod Binds
pub mod Refusals
pub mod Check
-- What callers are promised besides: what the check leaves for the reader, and what a kind byte says.
pub mod Bodies
pub mod Places
pub mod Examine
-- What the functions of the check promise each other.
pub mod Inner
