-- Where a sequence's parts leave nested entries, its rounds do.
use Prim.Native.Nat.{ℕ, zero, suc, ◌≤◌}
use mathlib.Core.Bool.{Bool, ◌||◌}
use native.Mathlib.Nat.{le_refl, le_trans}
use lib.Dec.{eqb}
use Rattle.rules.specs.Entries.{Reading}
use Rattle.rules.specs.Rounds.{Rounds, ended, part, first_round, next_round, rounds_after, rounds}
use Rattle.description.proofs.Choice.{either_way}
use Rattle.rules.proofs.Rounds.{rounds_stop, rounds-next, rounds_empty, rounds-first}
use Rattle.rules.proofs.Within.{Keeps}
use Rattle.promises.proofs.Nested.{Nested, nested-then, Lies}

-- a reading, as a function of the offset, whose entries lie inside what it reads
abbrev pub Nests : ℕ → (ℕ → Reading) → Type 0
Nests T f = (p : ℕ) → p ≤ T → Lies p (f p)

-- rounds from p on, whose entries lie inside what they read
pub record RoundsLie (p : ℕ) (r : Rounds) : Type 0 where
  pub from : p ≤ r.end
  pub nested : Nested p r.end r.entries

ended_lies : (elements p : ℕ) → RoundsLie p (ended elements p)
unfolding ended
ended_lies elements p = record { from = le_refl p; nested = Nested.none }

module _ (T : ℕ) where
  -- an element or a separator, and the rounds that follow it
  part_lies : (f : ℕ → Reading) → Keeps T f → Nests T f → (p : ℕ) → p ≤ T → (rest : Rounds) → RoundsLie (f p).end rest
      → RoundsLie p (part (f p) rest)
  unfolding part
  part_lies f k n p h rest l =
      record { from = le_trans (k p h).from l.from; nested = nested-then (k p h).from l.from (n p h) l.nested }

  module _ (element separator : ℕ → Reading) (done : ℕ → ℕ → Bool) where
    module _ (ek : Keeps T element) (sk : Keeps T separator) (en : Nests T element) (sn : Nests T separator) where
      after_lie : (left count b p : ℕ) → p ≤ T → RoundsLie p (rounds_after element separator done left count b p)
      unfolding next_round rounds_after
      after_lie zero count b p h = ended_lies count p
      after_lie (suc left) count b p h =
          either_way (eqb b p || done count p)
          (λ t. rw (rounds_stop element separator done (suc left) count b p t) (ended_lies count p))
          (λ t.
          let q = (separator p).end in
          let s = sk p h in
          let e = ek q s.to in
          rw (rounds-next element separator done left count b p t)
          (part_lies separator sk sn p h _ (part_lies element ek en q s.to _ (after_lie left (suc count) p (element q).end e.to))))

      pub rounds_lie : (left o : ℕ) → o ≤ T → RoundsLie o (rounds element separator done left o)
      unfolding first_round
      rounds_lie left o h =
          either_way (done 0 o)
          (λ t. rw (rounds_empty element separator done left o t) (ended_lies 0 o))
          (λ t. rw (rounds-first element separator done left o t) (part_lies element ek en o h _ (after_lie left 1 o (element o).end (ek o h).to)))
