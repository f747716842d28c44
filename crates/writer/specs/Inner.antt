-- What the functions of the writer promise each other: nothing here is needed to believe what callers are promised.
pub mod Entries
pub mod Fields
pub mod Packing
pub mod Stored
