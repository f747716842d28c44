-- The laws of putting text into a buffer and of what is printed; what is needed of standard input; the cases that are computed.
pub mod Decimals
pub mod Putting
pub mod Printed
pub mod Enough
pub mod Cases
