-- Every entry of a successful call's tables has a place; with zero errors it fits; and what fits, with no entry of an absorb node at or beneath it,
-- has zero errors.
use Prim.Native.Nat.{ℕ, suc, ◌+◌, ◌-◌, ◌≤◌, ◌<◌}
use mathlib.Core.Bool.{false}
use mathlib.Core.List.{List, [], ◌∷◌}
use mathlib.Core.Option.{some}
use mathlib.Core.Path.{◌≡◌, sym, ap, subst, ◌∙◌}
use native.Mathlib.Omega.{arith}
use lib.IntN.{ℤ}
use lib.ListN.{length}
use Rattle.description.specs.Check.{accepted, is_in, meaning}
use Rattle.description.specs.Trees.{Tree}
use Rattle.rules.specs.Entries.{Entry, Reading}
use Rattle.rules.specs.Fitting.{Fits}
use Rattle.rules.specs.Outcome.{success, outcome}
use Rattle.rules.specs.Reading.{read}
use Rattle.rules.proofs.Heads.{Headed, node_of, read_headed}
use Rattle.promises.specs.Places.{Place, place_of, FitsAt, absorbs, NoneAbsorbed, ZeroErrorsFit, FitsZeroErrors}
use Rattle.promises.specs.Table.{entry_at, entries, beneath}
use Rattle.promises.proofs.Absorbing.{Off}
use Rattle.promises.proofs.Accepted.{accepted-sound}
use Rattle.promises.proofs.Agreeing.{Agrees, agrees-entries, agrees-own, subtree_after}
use Rattle.promises.proofs.CleanFits.{clean-fits}
use Rattle.promises.proofs.FitsClean.{fits-clean}
use Rattle.promises.proofs.Located.{Located}
use Rattle.promises.proofs.Locating.{located}
use Rattle.promises.proofs.Runs.{asked_head, head_asked}
use Rattle.promises.proofs.Succeeded.{succeeded}
use Rattle.promises.proofs.Tabled.{outcome-agrees}

pub some_same : {A : Type 0} {x y : A} → some x ≡ some y → x ≡ y
some_same e = cc

pub accepted-same : {s t : Tree} → accepted s ≡ accepted t → s ≡ t
accepted-same e = cc

module _ (at : ℕ → Entry) where
  -- a table that has a reading's entries from entry i on
  module _ {n o : ℕ} (i : ℕ) (r : Reading) (h : Headed n o r) (agrees : Agrees at i r.entries) where
    own-beneath : beneath at i ≡ h.beneath
    unfolding beneath
    own-beneath =
        let few : (at i).size - 1 ≡ length h.beneath = omega (arith, ap (λ (e : Entry). e.size) (agrees-own at h i agrees).0, h.size) in
        ap (entries at (suc i)) few ∙ agrees-entries at h.beneath (suc i) (agrees-own at h i agrees).1

    own-errors : (at i).errors ≡ r.errors
    own-errors = ap (λ (e : Entry). e.errors) (agrees-own at h i agrees).0 ∙ h.errors

  -- entries of a table of which none is of a node in a list
  off_all : (ns : List ℕ) (es : List Entry) (i : ℕ) → Agrees at i es → ((k : ℕ) → i ≤ k → k < i + length es → is_in (at k).node ns ≡ false) → Off ns es
  off_all ns [] i agrees none = tt
  off_all ns (e ∷ es) i agrees none = (
    subst (λ (x : Entry). is_in x.node ns ≡ false) agrees.0 (none i (omega arith) (omega arith)),
    off_all ns es (suc i) agrees.1 (λ k h l. none k (omega arith) (omega arith)),
  )

-- An entry whose place is found.
module _ (input : List ℕ) (root : Tree) (at : ℕ → Entry) (i : ℕ) (l : Located input root at i (place_of root at i)) where
  abbrev tree : Tree
  tree = l.place.tree

  abbrev lent : List ℤ
  lent = l.place.lent

  abbrev r : Reading
  r = read input tree lent l.offset

  abbrev h : Headed (node_of tree) l.offset r
  h = read_headed input tree lent l.offset

  clean-here : (at i).errors ≡ 0 → FitsAt input root at i
  clean-here z =
      let fits = asked_head (Fits input tree lent) h (clean-fits input tree l.sound lent l.offset (sym (own-errors at i r h l.agrees) ∙ z)) in
      record { place = l.place; is = l.is; fits = rw ((agrees-own at h i l.agrees).0, own-beneath at i r h l.agrees) fits }

  fits-here : FitsAt input root at i → NoneAbsorbed root at i → (at i).errors ≡ 0
  fits-here f none =
      let same : f.place ≡ l.place = some_same (sym f.is ∙ l.is) in
      let fits : Fits input tree lent (at i) (beneath at i) = subst (λ (p : Place). Fits input p.tree p.lent (at i) (beneath at i)) same f.fits in
      let run = head_asked (Fits input tree lent) h (rw (sym (agrees-own at h i l.agrees).0, sym (own-beneath at i r h l.agrees)) fits) in
      let off = off_all at (absorbs tree) r.entries i l.agrees (λ k from to. l.under (at k).node (none k from (omega (arith, subtree_after at h i l.agrees)))) in
      own-errors at i r h l.agrees ∙ fits-clean input tree l.sound lent l.offset run off

-- A successful call whose description means this tree.
module _ (v d : ℕ) (desc input : List ℕ) (count end : ℕ) (success : (outcome v d desc input).answer ≡ success count end)
    (root : Tree) (means : meaning desc ≡ accepted root) where
  -- Entry i of its tables.
  abbrev pub at : ℕ → Entry
  at = entry_at (outcome v d desc input).values (outcome v d desc input).descriptors

  -- What is found of it.
  pub found : (i : ℕ) → i < count → Located input root at i (place_of root at i)
  unfolding place_of
  found i inside =
      let s = succeeded v d desc input count end success in
      let same : s.tree ≡ root = accepted-same (sym s.means ∙ means) in
      let agrees : Agrees at 0 (read input root [] 0).entries =
      subst (λ (t : Tree). Agrees at 0 (read input t [] 0).entries) same (outcome-agrees v d desc input s.tree s.means s.short s.fit) in
      let few : i < 0 + length (read input root [] 0).entries =
      subst (λ (t : Tree). i < 0 + length (read input t [] 0).entries) same (omega (arith, s.counted)) in
      located input at i root (accepted-sound desc root means) [] 0 0 agrees (omega arith) few

  -- Every entry has a place.
  pub each_placed : (i : ℕ) → i < count → (p : Place) × (place_of root at i ≡ some p)
  each_placed i inside = let l = found i inside in (l.place, l.is)

  -- "An entry with zero errors fits"
  pub zero_errors_fit : ZeroErrorsFit input root at count
  zero_errors_fit i inside = clean-here input root at i (found i inside)

  -- "An entry that fits, with no absorbed part at or beneath it, has zero errors."
  pub fits_zero_errors : FitsZeroErrors input root at count
  fits_zero_errors i inside = fits-here input root at i (found i inside)
