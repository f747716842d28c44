-- What the functions of the reader promise each other: nothing here is needed to believe what callers are promised.
pub mod Readings
pub mod Windows
pub mod Visits
pub mod Leaves
pub mod Owns
pub mod Pairs
pub mod Sequences
