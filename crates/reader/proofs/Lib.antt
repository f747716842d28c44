-- What the proofs of several functions use.
mod Signs
mod Windows
mod ByKind
mod Adding
mod Below
mod Done
mod Sides
mod Rules
mod Rounds
mod OneRound
mod Going
mod Ends
mod Trying
mod Calls
