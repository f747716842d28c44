-- No description that passes the check gets stuck: every input up to the limit is read through to a result, or its entries outnumber the room.
use Prim.Native.Nat.{ℕ, ◌≤◌, ◌<◌}
use mathlib.Core.List.{List, []}
use mathlib.Core.Logic.{◌⊎◌, inl, inr}
use mathlib.Core.Path.{◌≡◌, ap}
use native.Mathlib.Decide.{dec_lt}
use native.Mathlib.Omega.{arith}
use lib.ListN.{length}
use Rattle.description.specs.Check.{accepted, meaning}
use Rattle.description.specs.Trees.{Tree}
use Rattle.rules.specs.Outcome.{Outcome, success, no_room, most_input, refusing, succeeding, outcome}
use Rattle.rules.specs.Reading.{read}
use Rattle.rules.specs.Tables.{room}
use Rattle.rules.proofs.Outcomes.{outcome-crowded, outcome-read}

module _ (v d : ℕ) (desc input : List ℕ) (t : Tree) (passes : meaning desc ≡ accepted t) (short : length input ≤ most_input) where
  -- How many entries the rules give.
  abbrev pub entered : ℕ
  entered = length (read input t [] 0).entries

  -- With room for its entries a call is a success,
  pub with_room : entered ≤ room v d → (outcome v d desc input).answer ≡ success entered (read input t [] 0).end
  unfolding succeeding
  with_room fit = ap (λ (o : Outcome). o.answer) (outcome-read v d desc input t passes short fit)

  -- and without it refusal 13.
  pub without_room : room v d < entered → (outcome v d desc input).answer ≡ no_room
  unfolding refusing
  without_room crowded = ap (λ (o : Outcome). o.answer) (outcome-crowded v d desc input t passes short crowded)

  pub never_stuck : ((entered ≤ room v d) × ((outcome v d desc input).answer ≡ success entered (read input t [] 0).end))
      ⊎ ((room v d < entered) × ((outcome v d desc input).answer ≡ no_room))
  never_stuck = go (dec_lt (room v d) entered)
    where
      go : Dec (room v d < entered) → ((entered ≤ room v d) × ((outcome v d desc input).answer ≡ success entered (read input t [] 0).end))
          ⊎ ((room v d < entered) × ((outcome v d desc input).answer ≡ no_room))
      go (yes crowded) = inr (crowded, without_room crowded)
      go (no fits) = let fit : entered ≤ room v d = omega (arith, fits) in inl (fit, with_room fit)
