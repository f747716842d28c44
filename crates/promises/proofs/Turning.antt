-- By turns among the parts of a run of entries: what is found of entry j is what its part finds, where `turns` has enough turns.
use Prim.Native.Nat.{ℕ, zero, suc, ◌+◌, ◌≤◌, ◌<◌}
use mathlib.Core.Bool.{Bool, ◌||◌}
use mathlib.Core.List.{List, [], ◌++◌, append-nil}
use mathlib.Core.Option.{Option}
use mathlib.Core.Path.{◌≡◌, sym, ap, subst}
use native.Mathlib.Omega.{arith}
use lib.Dec.{eqb, ltb}
use lib.ListN.{length, length-append}
use borrow.Author.Tests.{ltb-true, ltb-false}
use Rattle.description.proofs.Choice.{by_test, either_way}
use Rattle.rules.specs.Entries.{Entry, Reading}
use Rattle.rules.specs.Rounds.{ended, part, first_round, next_round, rounds_after, rounds}
use Rattle.rules.proofs.Heads.{Headed}
use Rattle.rules.proofs.Rounds.{rounds_stop, rounds-next, rounds_empty, rounds-first}
use Rattle.promises.specs.Places.{Place, turns}
use Rattle.promises.specs.Table.{after}
use Rattle.promises.proofs.Agreeing.{Agrees, agrees_first, agrees-second, subtree_after}

module _ (at : ℕ → Entry) (j : ℕ) (P : Option Place → Type 0) where
  -- where the table has these entries and entry j is among them, what is found from their first one on is as asked
  abbrev pub Finds : List Entry → (ℕ → Option Place) → Type 0
  Finds es find = (k : ℕ) → Agrees at k es → k ≤ j → j < k + length es → P (find k)

  none_finds : (find : ℕ → Option Place) → Finds [] find
  none_finds find k a from to = absurd (omega arith)

  -- a turn for each entry is enough
  abbrev pub ByTurns : List Entry → (this other : ℕ → Option Place) → Type 0
  ByTurns es this other = (left : ℕ) → length es ≤ left → Finds es (turns at j left this other)

  -- Entry j is in the part whose turn it is, or in the rest.
  module _ {n o : ℕ} {r : Reading} (h : Headed n o r) (rest : List Entry) (this other : ℕ → Option Place) (here : Finds r.entries this) where
    turn : (left : ℕ) → Finds rest (turns at j left other this) → Finds (r.entries ++ rest) (turns at j (suc left) this other)
    unfolding turns
    turn left later k a from to =
        let first = agrees_first at r.entries rest k a in
        let next : after at k ≡ k + length r.entries = subtree_after at h k first in
        let all : length (r.entries ++ rest) ≡ length r.entries + length rest = length-append r.entries rest in
        by_test P (ltb j (after at k))
        (λ t. here k first from (omega (arith, ltb-true j (after at k) t)))
        (λ t.
        later (after at k) (subst (λ (i : ℕ). Agrees at i rest) (sym next) (agrees-second at r.entries rest k a))
        (omega (arith, ltb-false j (after at k) t)) (omega arith))

    -- every part has an entry of its own
    some-entry : suc (length rest) ≤ length (r.entries ++ rest)
    some-entry = omega (arith, length-append r.entries rest, ap (length {A = Entry}) h.entries)

    turn-enough : ByTurns rest other this → ByTurns (r.entries ++ rest) this other
    turn-enough later zero enough = absurd (omega (arith, some-entry))
    turn-enough later (suc left) enough = turn left (later left (omega (arith, some-entry)))

  none_by_turns : (this other : ℕ → Option Place) → ByTurns [] this other
  none_by_turns this other left enough = none_finds (turns at j left this other)

  -- Two parts, the one after the other.
  pub two_by_turns : {n o m p : ℕ} {r s : Reading} → Headed n o r → Headed m p s → (this other : ℕ → Option Place)
      → Finds r.entries this → Finds s.entries other → Finds (r.entries ++ s.entries) (turns at j 2 this other)
  two_by_turns {s = s} h k this other first second =
      let last = turn k [] other this second 0 (none_finds (turns at j 0 this other)) in
      turn h s.entries this other first 1 (subst (λ es. Finds es (turns at j 1 other this)) (append-nil s.entries) last)

  -- The parts of a sequence, by turns element and separator.
  module _ (element separator : ℕ → Reading) (done : ℕ → ℕ → Bool) (en sn : ℕ)
      (eh : (p : ℕ) → Headed en p (element p)) (sh : (p : ℕ) → Headed sn p (separator p)) (in_element in_separator : ℕ → Option Place)
      (ef : (p : ℕ) → Finds (element p).entries in_element) (sf : (p : ℕ) → Finds (separator p).entries in_separator) where
    after_by_turns : (left count b p : ℕ) → ByTurns (rounds_after element separator done left count b p).entries in_separator in_element
    unfolding rounds_after next_round ended part
    after_by_turns zero count b p = none_by_turns in_separator in_element
    after_by_turns (suc left) count b p =
        either_way (eqb b p || done count p)
        (λ t. rw (rounds_stop element separator done (suc left) count b p t) (none_by_turns in_separator in_element))
        (λ t.
        let q = (separator p).end in
        rw (rounds-next element separator done left count b p t)
        (turn-enough (sh p) _ in_separator in_element (sf p)
        (turn-enough (eh q) _ in_element in_separator (ef q) (after_by_turns left (suc count) p (element q).end))))

    pub rounds_by_turns : (left o : ℕ) → ByTurns (rounds element separator done left o).entries in_element in_separator
    unfolding first_round ended part
    rounds_by_turns left o =
        either_way (done 0 o)
        (λ t. rw (rounds_empty element separator done left o t) (none_by_turns in_element in_separator))
        (λ t.
        rw (rounds-first element separator done left o t)
        (turn-enough (eh o) _ in_element in_separator (ef o) (after_by_turns left 1 o (element o).end)))
