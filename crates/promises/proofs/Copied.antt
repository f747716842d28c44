-- A table in which a later element of a sequence is a copy of the first, moved to its own span, breaks demand 3 alone where the bits differ.
use Prim.Native.Nat.{ℕ, ◌<◌}
use mathlib.Core.List.{List}
use mathlib.Core.Option.{some}
use mathlib.Core.Path.{◌≡◌, sym, ap, subst, ◌∙◌}
use lib.IntN.{ℤ}
use Rattle.bits.specs.Bits.{number}
use Rattle.bits.specs.Whole.{twos_complement, modulo}
use Rattle.bits.proofs.Numbers.{number-below}
use Rattle.bits.proofs.Words.{modulo_twos}
use Rattle.description.specs.Trees.{Tree, bits, signed}
use Rattle.rules.specs.Entries.{Entry}
use Rattle.rules.specs.Fitting.{Fits}
use Rattle.promises.specs.Places.{Place, place_of, ZeroErrorsFit}
use Rattle.promises.specs.Table.{beneath}
use Rattle.promises.proofs.EachEntry.{some_same}

-- Entry j is a copy of entry i, moved to another begin: both are of one bits or signed node and have no error, and one number stands in both.
pub record Copy (root : Tree) (at : ℕ → Entry) (count : ℕ) (t : Tree) (i j : ℕ) : Type 0 where
  pub lent : List ℤ
  pub first : i < count
  pub later : j < count
  pub first_of : place_of root at i ≡ some (record { tree = t; lent = lent })
  pub later_of : place_of root at j ≡ some (record { tree = t; lent = lent })
  pub first-clean : (at i).errors ≡ 0
  pub later-clean : (at j).errors ≡ 0
  pub number : (at j).number ≡ (at i).number

module _ (input : List ℕ) (root : Tree) (at : ℕ → Entry) (count : ℕ) (demand : ZeroErrorsFit input root at count) (i j : ℕ) where
  fits : (t : Tree) (lent : List ℤ) (k : ℕ) → k < count → place_of root at k ≡ some (record { tree = t; lent = lent }) → (at k).errors ≡ 0
      → Fits input t lent (at k) (beneath at k)
  fits t lent k inside of clean =
      let f = demand k inside clean in
      subst (λ (q : Place). Fits input q.tree q.lent (at k) (beneath at k)) (some_same (sym f.is ∙ of)) f.fits

  -- where demand 3 holds, both entries fit
  both-fit : (t : Tree) (c : Copy root at count t i j) → Fits input t c.lent (at i) (beneath at i) × Fits input t c.lent (at j) (beneath at j)
  both-fit t c = (fits t c.lent i c.first c.first_of c.first-clean, fits t c.lent j c.later c.later_of c.later-clean)

  pub copied-bits : (n w : ℕ) → Copy root at count (bits n w) i j → (number input (at j).begin w ≡ number input (at i).begin w → ⊥) → ⊥
  unfolding Fits
  copied-bits n w c differ = let f = both-fit (bits n w) c in differ (sym f.1.3 ∙ c.number ∙ f.0.3)

  pub copied-signed : (n w : ℕ) → Copy root at count (signed n w) i j → (number input (at j).begin w ≡ number input (at i).begin w → ⊥) → ⊥
  unfolding Fits
  copied-signed n w c differ =
      let f = both-fit (signed n w) c in
      let same : twos_complement w (number input (at j).begin w) ≡ twos_complement w (number input (at i).begin w) =
      sym f.1.3 ∙ ap (twos_complement 32) c.number ∙ f.0.3 in
      differ
      (sym (modulo_twos w (number input (at j).begin w) (number-below input (at j).begin w))
      ∙ ap (modulo w) same
      ∙ modulo_twos w (number input (at i).begin w) (number-below input (at i).begin w))
