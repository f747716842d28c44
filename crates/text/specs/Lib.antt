-- What is printed.
pub mod Lines
pub mod Listing
-- What the functions that put it into a buffer promise.
pub mod Put
-- What they promise each other.
pub mod Inner
