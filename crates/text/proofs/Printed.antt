-- What is printed of a call: the listing's tables have room for so many entries.
use Rattle.std.proofs.Common.{ℕ, ◌≤◌, List}
use Rattle.rules.specs.Outcome.{outcome, stated}
use Rattle.rules.specs.Tables.{room}
use Rattle.rules.proofs.Outcomes.{outcome-count}
use Rattle.text.specs.Listing.{table_words}

pub few_entries : (desc input : List ℕ) → (stated (outcome table_words table_words desc input).answer).count ≤ 1024
unfolding room
few_entries = outcome-count table_words table_words
