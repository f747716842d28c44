-- Request 2, in its words.
pub mod Fields
pub mod Bits
pub mod Entries
pub mod Outcome
