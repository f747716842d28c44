-- What the functions of this crate promise each other: nothing here is needed to believe what callers are promised.
pub mod Lengths
pub mod Puts
