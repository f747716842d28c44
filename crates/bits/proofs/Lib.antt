-- The laws of the definitions in specs/, for the proofs here and in the crates above.
pub mod Numbers
pub mod Words
pub mod Answers
