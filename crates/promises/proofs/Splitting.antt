-- Two ways to split a list of entries where sizes say how long the first subtree is: they are one.
use Prim.Native.Nat.{ℕ, suc}
use mathlib.Core.List.{List, [], ◌∷◌, ◌++◌}
use mathlib.Core.Path.{◌≡◌, refl, sym, ap, ◌∙◌}
use native.Mathlib.Nat.{suc_inj}
use native.Mathlib.Omega.{arith}
use lib.IntN.{ℤ}
use lib.ListN.{length}
use Rattle.description.specs.Trees.{Tree, unit, bottom, bits, signed, then, bind, either, both, where', sequence, compute, absorb, scan}
use Rattle.rules.specs.Entries.{Entry}
use Rattle.rules.specs.Fitting.{Run, Fits}

-- what is asked of a run that its own entry's size counts
abbrev pub Sizes : Run → Type 0
Sizes R = (e : Entry) (run : List Entry) → R e run → e.size ≡ suc (length run)

pub fits-size : (input : List ℕ) (t : Tree) (lent : List ℤ) → Sizes (Fits input t lent)
unfolding Fits
fits-size input (unit n) lent e run f = f.0.stands.size
fits-size input (bottom n) lent e run f = absurd f
fits-size input (bits n w) lent e run f = f.0.stands.size
fits-size input (signed n w) lent e run f = f.0.stands.size
fits-size input (then n a b) lent e run f = f.0.size
fits-size input (bind n a b) lent e run f = f.0.size
fits-size input (either n a b) lent e run f = f.0.size
fits-size input (both n a b) lent e run f = f.0.size
fits-size input (where' n a r x) lent e run f = f.0.size
fits-size input (sequence n a b c x) lent e run f = f.0.size
fits-size input (compute n w g x y) lent e run f = f.0.stands.size
fits-size input (absorb n a) lent e run f = f.0.stands.size
fits-size input (scan n a) lent e run f = f.0.size

same-split : (xs ys us vs : List Entry) → length xs ≡ length us → xs ++ ys ≡ us ++ vs → (xs ≡ us) × (ys ≡ vs)
same-split [] ys [] vs l e = (refl, e)
same-split [] ys (u ∷ us) vs l e = absurd (omega arith)
same-split (x ∷ xs) ys [] vs l e = absurd (omega arith)
same-split (x ∷ xs) ys (u ∷ us) vs l e =
    let head : x ≡ u = cc in
    let tail : xs ++ ys ≡ us ++ vs = cc in
    let s = same-split xs ys us vs (suc_inj l) tail in
    (cc (head, s.0), s.1)

pub split_sized : (e f : Entry) (run fun ys zs : List Entry) → e.size ≡ suc (length run) → f.size ≡ suc (length fun) → (e ∷ run) ++ ys ≡ (f ∷ fun) ++ zs
    → ((e ∷ run) ≡ (f ∷ fun)) × (ys ≡ zs)
split_sized e f run fun ys zs es fs same =
    let head : e ≡ f = cc in
    same-split (e ∷ run) ys (f ∷ fun) zs (sym es ∙ ap (λ (x : Entry). x.size) head ∙ fs) same
