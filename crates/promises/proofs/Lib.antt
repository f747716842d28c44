-- Theorems on the rules of document 01, and on the tables that a successful call leaves.
-- The tables' words, and the entries that a reading left in them.
pub mod Agreeing
pub mod Tabled
pub mod Succeeded
-- Never stuck.
pub mod Bounds
pub mod Stuck
-- Spans.
pub mod Nested
pub mod NestedRounds
pub mod NestedReadings
pub mod Subtrees
pub mod Parents
pub mod Spanning
-- Trees that pass the check.
pub mod Sound
pub mod SoundNodes
pub mod Accepted
-- Zero errors fits, and what fits has zero errors.
pub mod Codes
pub mod Numbers
pub mod Splitting
pub mod Runs
pub mod CleanRounds
pub mod CleanFits
pub mod Absorbing
pub mod FitsRounds
pub mod FitsClean
-- The same by index: each entry's place, and what holds of it.
pub mod Turning
pub mod Located
pub mod Locating
pub mod EachEntry
pub mod Copied
-- Request 1: how much was missing.
pub mod Missing
-- Calls and tables that meet the hypotheses.
pub mod Cases
