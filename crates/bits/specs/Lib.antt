pub mod Bits
pub mod Whole
pub mod Lowest
