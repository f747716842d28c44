-- What the promises say of the tables that a caller holds.
pub mod Table
pub mod Spans
pub mod Places
pub mod Missing
