-- What the contracts allow, and what they shut out.
pub mod Determined
pub mod Answers
pub mod Callers
pub mod WrongReaders
pub mod Returns
pub mod Cases
