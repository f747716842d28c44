-- The rules of document 01, in its order.
pub mod Entries
pub mod Numbers
pub mod Rounds
pub mod Tries
pub mod Reading
pub mod Tables
pub mod Outcome
pub mod Fitting
