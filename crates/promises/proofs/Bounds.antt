-- The bits left are enough rounds for every sequence: the bound in the definition of its rounds never decides.
use Prim.Native.Nat.{ℕ, ◌-◌, ◌≤◌}
use mathlib.Core.List.{List}
use mathlib.Core.Path.{◌≡◌}
use lib.IntN.{ℤ}
use Rattle.bits.specs.Bits.{total}
use Rattle.description.specs.Trees.{Tree}
use Rattle.rules.specs.Rounds.{rounds}
use Rattle.rules.specs.Reading.{done_at, read}
use Rattle.rules.proofs.Spans.{done_at_end, read-within}
use Rattle.rules.proofs.Within.{rounds-enough}

module _ (input : List ℕ) where
  -- Each round of a sequence begins further on, so a larger bound on the rounds than the bits left gives the same rounds.
  pub sequence-bound : (e s t : Tree) (operand : ℤ) (lent : List ℤ) (left o : ℕ) → o ≤ total input → total input - o ≤ left
      → rounds (read input e lent) (read input s lent) (done_at input operand (read input t lent)) left o
      ≡ rounds (read input e lent) (read input s lent) (done_at input operand (read input t lent)) (total input - o) o
  sequence-bound e s t operand lent left o h enough =
      rounds-enough (read input e lent) (read input s lent) (done_at input operand (read input t lent)) (total input)
      (read-within input e lent) (read-within input s lent) (done_at_end input operand (read input t lent)) left o h enough
