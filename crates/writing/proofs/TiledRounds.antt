-- Rounds with zero errors tile the input from where the sequence begins to where it ends, for any readings of element and separator that do.
use Prim.Native.Nat.{ℕ, zero, suc}
use mathlib.Core.Bool.{Bool, ◌||◌}
use mathlib.Core.List.{List}
use mathlib.Core.Path.{◌≡◌, refl, sym, subst}
use native.Mathlib.Omega.{arith}
use lib.Dec.{eqb}
use Rattle.description.proofs.Choice.{either_way}
use Rattle.rules.specs.Entries.{Reading}
use Rattle.rules.specs.Rounds.{Rounds, ended, part, first_round, next_round, rounds_after, rounds}
use Rattle.rules.proofs.Rounds.{rounds_stop, rounds-next, rounds_empty, rounds-first}
use Rattle.promises.proofs.Codes.{any-clean}
use Rattle.writing.specs.declared.Field.{Field}
use Rattle.writing.proofs.Tiling.{Tiled, tiled_append}

module _ (input : List ℕ) (fields : List Field) where
  -- What is shown of a reading that begins at o.
  abbrev pub CleanTiled : ℕ → Reading → Type 0
  CleanTiled o r = r.errors ≡ 0 → Tiled input fields o r.entries r.end

  -- and of rounds that begin there
  abbrev Turned : ℕ → Rounds → Type 0
  Turned o r = r.errors ≡ 0 → Tiled input fields o r.entries r.end

  ended-tiled : (count p : ℕ) → Turned p (ended count p)
  unfolding ended
  ended-tiled count p z = refl

  part-tiled : (o : ℕ) (r : Reading) (rest : Rounds) → CleanTiled o r → Turned r.end rest → Turned o (part r rest)
  unfolding part
  part-tiled o r rest f g z =
      tiled_append input fields o r.end rest.end r.entries rest.entries (f (any-clean r.errors (omega arith))) (g (omega arith))

  module _ (element separator : ℕ → Reading) (done : ℕ → ℕ → Bool)
      (et : (p : ℕ) → CleanTiled p (element p)) (st : (p : ℕ) → CleanTiled p (separator p)) where
    after-tiled : (left count b p : ℕ) → Turned p (rounds_after element separator done left count b p)
    unfolding rounds_after next_round
    after-tiled zero count b p = ended-tiled count p
    after-tiled (suc left) count b p =
        let s = separator p in
        let e = element s.end in
        either_way (eqb b p || done count p)
        (λ t. subst (Turned p) (sym (rounds_stop element separator done (suc left) count b p t)) (ended-tiled count p))
        (λ t.
        subst (Turned p) (sym (rounds-next element separator done left count b p t))
        (part-tiled p s _ (st p) (part-tiled s.end e _ (et s.end) (after-tiled left (suc count) p e.end))))

    pub rounds-tiled : (left o : ℕ) → Turned o (rounds element separator done left o)
    unfolding first_round
    rounds-tiled left o =
        either_way (done 0 o)
        (λ t. subst (Turned o) (sym (rounds_empty element separator done left o t)) (ended-tiled 0 o))
        (λ t.
        subst (Turned o) (sym (rounds-first element separator done left o t))
        (part-tiled o (element o) _ (et o) (after-tiled left 1 o (element o).end)))
