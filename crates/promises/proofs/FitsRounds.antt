-- Parts of a sequence that fit were read with zero errors, and so were its rounds, for any readings of element and separator.
use Prim.Native.Nat.{ℕ, zero, suc}
use mathlib.Core.Bool.{Bool, ◌||◌}
use mathlib.Core.List.{List, [], ◌∷◌, ◌++◌, append-nil, append_assoc}
use mathlib.Core.Logic.{◌⊎◌, inl, inr, ⊎_elim}
use mathlib.Core.Path.{◌≡◌, refl, sym, ap, subst, ◌∙◌}
use native.Mathlib.Omega.{arith}
use lib.Dec.{eqb}
use Rattle.description.proofs.Choice.{either_way}
use Rattle.rules.specs.Entries.{Entry, Reading}
use Rattle.rules.specs.Fitting.{Run, Turns}
use Rattle.rules.specs.Rounds.{Rounds, ended, part, first_round, next_round, rounds_after, rounds}
use Rattle.rules.proofs.Errors.{any_none}
use Rattle.rules.proofs.Heads.{Headed}
use Rattle.rules.proofs.Rounds.{rounds_stop, rounds-next, rounds_empty, rounds-first}
use Rattle.promises.proofs.Runs.{Asked}
use Rattle.promises.proofs.Splitting.{Sizes, split_sized}

-- no list is both empty and not
pub not_empty : {A : Type 0} (e : Entry) (es : List Entry) → [] ≡ e ∷ es → A
not_empty e es h = let z : ◌≡◌ {A = ℕ} 0 1 = cc in absurd (omega arith)

module _ (Element Separator : Run) where
  -- what follows an element: nothing, or a separator and then turns again
  abbrev Rest : (q : ℕ) → List Entry → Type 0
  Rest q tail =
      (tail ≡ [])
      ⊎ ((s : Entry) × (srun : List Entry) × (rest : List Entry) × (m : ℕ) × (tail ≡ (s ∷ srun) ++ rest) × Separator s srun
      × Turns Element Separator s.end q m rest)

  -- the first element of some turns is the reading whose entries stand there
  peel : {k o p q n : ℕ} (r : Reading) (h : Headed k o r) → Sizes Element → (tail : List Entry) → Turns Element Separator p q n (r.entries ++ tail)
      → Asked Element r.entries × Rest q tail
  peel r h sizes tail (Turns.last e run is one begin end fits) =
      let same = split_sized h.own e h.beneath run tail [] h.size (sizes e run fits) (ap (λ es. es ++ tail) (sym h.entries) ∙ is ∙ sym (append-nil (e ∷ run))) in
      (subst (Asked Element) (sym (h.entries ∙ same.0)) fits, inl same.1)
  peel r h sizes tail (Turns.more e run s srun rest m is more begin next fits sfits turns) =
      let same = split_sized h.own e h.beneath run tail ((s ∷ srun) ++ rest) h.size (sizes e run fits)
      (ap (λ es. es ++ tail) (sym h.entries) ∙ is ∙ append_assoc (e ∷ run) (s ∷ srun) rest) in
      (subst (Asked Element) (sym (h.entries ∙ same.0)) fits, inr (s, srun, rest, m, same.1, sfits, turns))

module _ (element separator : ℕ → Reading) (done : ℕ → ℕ → Bool) (Element Separator : Run) (en sn : ℕ)
    (eh : (p : ℕ) → Headed en p (element p)) (sh : (p : ℕ) → Headed sn p (separator p)) (es : Sizes Element) (ss : Sizes Separator) (off : List Entry → Type 0)
    (first : (xs ys : List Entry) → off (xs ++ ys) → off xs) (second : (xs ys : List Entry) → off (xs ++ ys) → off ys)
    (ec : (p : ℕ) → Asked Element (element p).entries → off (element p).entries → (element p).errors ≡ 0)
    (sc : (p : ℕ) → Asked Separator (separator p).entries → off (separator p).entries → (separator p).errors ≡ 0) where
  -- the element at p, and rounds after it
  abbrev FollowClean : (p : ℕ) → Rounds → Type 0
  FollowClean p r = (o q n : ℕ) → Turns Element Separator o q n ((element p).entries ++ r.entries) → off ((element p).entries ++ r.entries)
      → ((element p).errors ≡ 0) × (r.errors ≡ 0)

  last-clean : (p count : ℕ) → FollowClean p (ended count (element p).end)
  unfolding ended
  last-clean p count o q n turns o-all = (ec p (peel Element Separator (element p) (eh p) es [] turns).0 (first (element p).entries [] o-all), refl)

  module _ (p : ℕ) (rest : Rounds) where
    abbrev s : Reading
    s = separator (element p).end

    next-clean : FollowClean s.end rest → FollowClean p (part s (part (element s.end) rest))
    unfolding part
    next-clean follow o q n turns o-all =
        let tail = (element s.end).entries ++ rest.entries in
        let k = sh (element p).end in
        let peeled = peel Element Separator (element p) (eh p) es (s.entries ++ tail) turns in
        let o-tail = second (element p).entries (s.entries ++ tail) o-all in
        ⊎_elim (λ none. not_empty k.own (k.beneath ++ tail) (sym none ∙ ap (λ es. es ++ tail) k.entries))
        (λ some.
        let same = split_sized k.own some.0 k.beneath some.1 tail some.2 k.size (ss some.0 some.1 some.5)
        (ap (λ es. es ++ tail) (sym k.entries) ∙ some.4) in
        let s-clean = sc (element p).end (subst (Asked Separator) (sym (k.entries ∙ same.0)) some.5) (first s.entries tail o-tail) in
        let turned = subst (Turns Element Separator some.0.end q some.3) (sym same.1) some.6 in
        let others = follow some.0.end q some.3 turned (second s.entries tail o-tail) in (
          ec p peeled.0 (first (element p).entries (s.entries ++ tail) o-all),
          omega (arith, any_none s.errors s-clean, any_none (element s.end).errors others.0, others.1),
        ))
        peeled.1

  after-clean : (left count b p : ℕ) → FollowClean p (rounds_after element separator done left count b (element p).end)
  unfolding rounds_after next_round
  after-clean zero count b p = last-clean p count
  after-clean (suc left) count b p =
      let q = (element p).end in
      let e = (separator q).end in
      either_way (eqb b q || done count q)
      (λ t. subst (FollowClean p) (sym (rounds_stop element separator done (suc left) count b q t)) (last-clean p count))
      (λ t.
      subst (FollowClean p) (sym (rounds-next element separator done left count b q t))
      (next-clean p (rounds_after element separator done left (suc count) q (element e).end) (after-clean left (suc count) q e)))

  -- Rounds whose parts fit, or that have none.
  abbrev pub RoundsClean : Rounds → Type 0
  RoundsClean r = (p q n : ℕ) → (r.entries ≡ []) ⊎ Turns Element Separator p q n r.entries → off r.entries → r.errors ≡ 0

  pub turns-clean : (left o : ℕ) → RoundsClean (rounds element separator done left o)
  unfolding first_round ended part
  turns-clean left o =
      either_way (done 0 o)
      (λ t. subst RoundsClean (sym (rounds_empty element separator done left o t)) (λ p q n parts o-all. refl))
      (λ t.
      subst RoundsClean (sym (rounds-first element separator done left o t))
      (λ p q n parts o-all.
      let h = eh o in
      let tail = (rounds_after element separator done left 1 o (element o).end).entries in
      ⊎_elim (λ none. not_empty h.own (h.beneath ++ tail) (sym none ∙ ap (λ es. es ++ tail) h.entries))
      (λ turns.
      let clean = after-clean left 1 o o p q n turns o-all in
      omega (arith, any_none (element o).errors clean.0, clean.1))
      parts))
