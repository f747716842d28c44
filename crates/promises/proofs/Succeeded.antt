-- A call that succeeds: its description means a tree, its input is no longer than allowed, and the entries that are counted have room.
use Prim.Native.Nat.{ℕ, ◌≤◌}
use mathlib.Core.List.{List, []}
use mathlib.Core.Path.{◌≡◌, refl}
use native.Mathlib.Omega.{arith}
use lib.Dec.{ltb}
use lib.ListN.{length}
use borrow.Author.Tests.{ltb-true, ltb-false}
use Rattle.description.specs.Check.{Meaning, accepted, refused, meaning}
use Rattle.description.specs.Trees.{Tree}
use Rattle.rules.specs.Outcome.{success, bad_description, input_too_long, no_room, most_input, refusing, succeeding, outcome}
use Rattle.rules.specs.Reading.{read}
use Rattle.rules.specs.Tables.{room}
use Rattle.description.proofs.Choice.{either_way}
use Rattle.rules.proofs.Outcomes.{outcome-refused, outcome-long, outcome-crowded, outcome-read}

module _ (v d : ℕ) (desc input : List ℕ) (count end : ℕ) where
  -- What stands behind a success with this count and end.
  pub record Succeeded : Type 0 where
    pub tree : Tree
    pub means : meaning desc ≡ accepted tree
    pub short : length input ≤ most_input
    pub fit : length (read input tree [] 0).entries ≤ room v d
    pub counted : count ≡ length (read input tree [] 0).entries
    pub ended : end ≡ (read input tree [] 0).end

  pub succeeded : (outcome v d desc input).answer ≡ success count end → Succeeded
  unfolding refusing succeeding
  succeeded s = go (meaning desc) refl
    where
      go : (m : Meaning) → meaning desc ≡ m → Succeeded
      go (refused r) m =
          let e : bad_description r ≡ success count end = rw (outcome-refused v d desc input r m) at s in
          let z : ◌≡◌ {A = ℕ} 0 1 = cc in
          absurd (omega arith)
      go (accepted t) m =
          either_way (ltb most_input (length input))
          (λ l.
          let e : input_too_long ≡ success count end = rw (outcome-long v d desc input t m (ltb-true most_input (length input) l)) at s in
          let z : ◌≡◌ {A = ℕ} 0 1 = cc in
          absurd (omega arith))
          (λ l.
          let h = ltb-false most_input (length input) l in
          let n = length (read input t [] 0).entries in
          either_way (ltb (room v d) n)
          (λ c.
          let e : no_room ≡ success count end = rw (outcome-crowded v d desc input t m h (ltb-true (room v d) n c)) at s in
          let z : ◌≡◌ {A = ℕ} 0 1 = cc in
          absurd (omega arith))
          (λ c.
          let fit = ltb-false (room v d) n c in
          let e : success n (read input t [] 0).end ≡ success count end = rw (outcome-read v d desc input t m h fit) at s in
          record { tree = t; means = m; short = h; fit = fit; counted = cc; ended = cc }))
