-- What callers are promised.
pub mod Answers
-- What the functions of the reader promise each other.
pub mod Inner
