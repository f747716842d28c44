-- What callers are promised stands in the crate `writing`; here is what the functions of the writer promise each other.
pub mod Inner
