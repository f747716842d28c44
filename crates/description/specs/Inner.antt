-- What the functions of the check promise each other: nothing here is needed to believe what callers are promised.
pub mod Children
pub mod Names
pub mod Steps
