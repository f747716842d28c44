-- Rounds with zero errors are by turns elements and separators that fit, end to end, for any readings of the two.
use Prim.Native.Nat.{ℕ, zero, suc, ◌-◌, ◌≤◌}
use mathlib.Core.Bool.{Bool, ◌||◌}
use mathlib.Core.List.{[], ◌∷◌, ◌++◌, append-nil, append_assoc}
use mathlib.Core.Logic.{◌⊎◌, inl, inr}
use mathlib.Core.Path.{◌≡◌, refl, sym, ap, subst, ◌∙◌}
use native.Mathlib.Nat.{le_refl, sub-zero}
use native.Mathlib.Omega.{arith}
use lib.Dec.{eqb}
use Rattle.description.proofs.Choice.{either_way}
use Rattle.rules.specs.Entries.{Reading}
use Rattle.rules.specs.Fitting.{Run, Turns}
use Rattle.rules.specs.Rounds.{Rounds, ended, part, first_round, next_round, rounds_after, rounds}
use Rattle.rules.proofs.Heads.{Headed}
use Rattle.rules.proofs.Rounds.{rounds_stop, rounds-next, rounds_empty, rounds-first}
use Rattle.promises.proofs.Codes.{any-clean}
use Rattle.promises.proofs.Runs.{Asked, asked_head}

module _ (element separator : ℕ → Reading) (done : ℕ → ℕ → Bool) where
  -- no element that was read is taken back
  after-count : (left count b p : ℕ) → count ≤ (rounds_after element separator done left count b p).elements
  unfolding rounds_after next_round ended part
  after-count zero count b p = le_refl count
  after-count (suc left) count b p =
      either_way (eqb b p || done count p)
      (λ t. rw (rounds_stop element separator done (suc left) count b p t) (le_refl count))
      (λ t. rw (rounds-next element separator done left count b p t) (omega (arith, after-count left (suc count) p (element (separator p).end).end)))

  module _ (Element Separator : Run) (en sn : ℕ) (eh : (p : ℕ) → Headed en p (element p)) (sh : (p : ℕ) → Headed sn p (separator p))
      (ef : (p : ℕ) → (element p).errors ≡ 0 → Asked Element (element p).entries) (sf : (p : ℕ) → (separator p).errors ≡ 0 → Asked Separator (separator p).entries) where
    -- the element at p and what follows it
    abbrev Follow : (p count : ℕ) → Rounds → Type 0
    Follow p count r = r.errors ≡ 0 → Turns Element Separator p r.end (r.elements - count) ((element p).entries ++ r.entries)

    last_turn : (p count : ℕ) → (element p).errors ≡ 0 → Follow p count (ended (suc count) (element p).end)
    unfolding ended
    last_turn p count clean z =
        let h = eh p in
        let one : suc count - count ≡ 1 = omega arith in
        Turns.last h.own h.beneath (append-nil (element p).entries ∙ h.entries) one h.begin h.end (asked_head Element h (ef p clean))

    -- the separator after it, and the element after that with what follows
    module _ (p count : ℕ) (rest : Rounds) (clean : (element p).errors ≡ 0) (more : suc (suc count) ≤ rest.elements) where
      abbrev s : Reading
      s = separator (element p).end

      next-turn : ((element s.end).errors ≡ 0 → Follow s.end (suc count) rest) → Follow p count (part s (part (element s.end) rest))
      unfolding part
      next-turn follow z =
          let h = eh p in
          let k = sh (element p).end in
          let one_less : rest.elements - count ≡ suc (rest.elements - suc count) = omega arith in
          let s-clean = any-clean s.errors (omega arith) in
          let e-clean = any-clean (element s.end).errors (omega arith) in
          let tail = (element s.end).entries ++ rest.entries in
          let are : (element p).entries ++ (s.entries ++ tail) ≡ (h.own ∷ h.beneath) ++ (k.own ∷ k.beneath) ++ tail =
          ap (λ es. es ++ (s.entries ++ tail)) h.entries ∙ ap (λ es. (h.own ∷ h.beneath) ++ (es ++ tail)) k.entries
          ∙ sym (append_assoc (h.own ∷ h.beneath) (k.own ∷ k.beneath) tail) in
          Turns.more h.own h.beneath k.own k.beneath tail (rest.elements - suc count)
          are one_less h.begin (k.begin ∙ sym h.end)
          (asked_head Element h (ef p clean)) (asked_head Separator k (sf (element p).end s-clean))
          (subst (λ (q : ℕ). Turns Element Separator q rest.end (rest.elements - suc count) tail) (sym k.end) (follow e-clean (omega arith)))

    after-turns : (left count b p : ℕ) → (element p).errors ≡ 0 → Follow p count (rounds_after element separator done left (suc count) b (element p).end)
    unfolding rounds_after next_round
    after-turns zero count b p clean = last_turn p count clean
    after-turns (suc left) count b p clean =
        let q = (element p).end in
        let e = (separator q).end in
        either_way (eqb b q || done (suc count) q)
        (λ t. subst (Follow p count) (sym (rounds_stop element separator done (suc left) (suc count) b q t)) (last_turn p count clean))
        (λ t.
        subst (Follow p count) (sym (rounds-next element separator done left (suc count) b q t))
        (next-turn p count (rounds_after element separator done left (suc (suc count)) q (element e).end) clean
        (after-count left (suc (suc count)) q (element e).end) (after-turns left (suc count) q e)))

    -- "its parts, if any, are by turns element and separator"
    abbrev pub Turned : ℕ → Rounds → Type 0
    Turned o r = ((r.entries ≡ []) × (r.elements ≡ 0) × (r.end ≡ o)) ⊎ Turns Element Separator o r.end r.elements r.entries

    pub clean-turns : (left o : ℕ) → (rounds element separator done left o).errors ≡ 0 → Turned o (rounds element separator done left o)
    unfolding first_round ended part
    clean-turns left o =
        either_way (done 0 o)
        (λ t. rw (rounds_empty element separator done left o t) (λ z. inl (refl, refl, refl)))
        (λ t.
        rw (rounds-first element separator done left o t)
        (λ z.
        let r = rounds_after element separator done left 1 o (element o).end in
        inr (subst (λ (n : ℕ). Turns Element Separator o r.end n ((element o).entries ++ r.entries)) (sub-zero r.elements)
        (after-turns left 0 o o (any-clean (element o).errors (omega arith)) (omega arith)))))
