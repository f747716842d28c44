-- What the proofs of several functions use.
mod Looked
mod Packing
mod ByKind
mod Filling
mod Signs
mod Entering
mod Calls
