-- The entries of a subtree as one list, its own entry first: that they fit, and how one child or two give what stands beneath a node.
use Prim.Native.Nat.{ℕ, max}
use mathlib.Core.List.{List, [], ◌∷◌, ◌++◌}
use mathlib.Core.Path.{◌≡◌, sym, ap, subst, ◌∙◌}
use lib.IntN.{ℤ}
use Rattle.description.specs.Trees.{Tree}
use Rattle.rules.specs.Entries.{Entry, Reading}
use Rattle.rules.specs.Fitting.{Run, Child, Children, EndToEnd, SameBegin, Fits}
use Rattle.rules.proofs.Heads.{Headed}
use Rattle.promises.proofs.Splitting.{Sizes, split_sized}

-- What is asked of an entry and of those beneath it, asked of all of them.
abbrev pub Asked : Run → List Entry → Type 0
Asked R [] = ⊥
Asked R (e ∷ es) = R e es

abbrev pub FitsRun : List ℕ → Tree → List ℤ → List Entry → Type 0
FitsRun input t lent = Asked (Fits input t lent)

-- A reading's own entry and those beneath it.
module _ {n o : ℕ} {r : Reading} (R : Run) (h : Headed n o r) where
  pub asked_head : Asked R r.entries → R h.own h.beneath
  asked_head = subst (Asked R) h.entries

  pub head_asked : R h.own h.beneath → Asked R r.entries
  head_asked = subst (Asked R) (sym h.entries)

-- "The one child of either, where, scan and absorb has its parent's span."
pub one-child : {n o : ℕ} {r : Reading} (R : Run) (h : Headed n o r) (e : Entry) → o ≡ e.begin → r.end ≡ e.end → Asked R r.entries
    → Child R e r.entries
one-child R h e begin end fits =
    record { child = h.own; run = h.beneath; is = h.entries; begin = h.begin ∙ begin; end = h.end ∙ end; fits = asked_head R h fits }

pub child_asked : (R : Run) (e : Entry) (es : List Entry) → Child R e es → Asked R es
child_asked R e es c = subst (Asked R) (sym c.is) c.fits

-- Two children, the second after the first or both from one begin, whose own entries are asked of them.
module _ {n o m p : ℕ} {r s : Reading} (First : Run) (Second : Entry → Run) (h : Headed n o r) (k : Headed m p s)
    (first : Asked First r.entries) (second : Asked (Second h.own) s.entries) where
  children : (Spans : Entry → Entry → Type 0) → Spans h.own k.own → Children First Second Spans (r.entries ++ s.entries)
  children Spans spans =
      record {
        first = h.own;
        firsts = h.beneath;
        second = k.own;
        seconds = k.beneath;
        are = ap (λ es. es ++ s.entries) h.entries ∙ ap (λ es. (h.own ∷ h.beneath) ++ es) k.entries;
        first_fits = asked_head First h first;
        second_fits = asked_head (Second h.own) k second;
        spans = spans;
      }

  pub end_to_end : (e : Entry) → o ≡ e.begin → p ≡ r.end → s.end ≡ e.end → Children First Second (EndToEnd e) (r.entries ++ s.entries)
  end_to_end e begin next end = children (EndToEnd e) (record { begin = h.begin ∙ begin; next = k.begin ∙ next ∙ sym h.end; end = k.end ∙ end })

  pub same-begin : (e : Entry) → o ≡ e.begin → p ≡ e.begin → e.end ≡ max r.end s.end → Children First Second (SameBegin e) (r.entries ++ s.entries)
  same-begin e begin begin' end =
      children (SameBegin e) (record { first-begin = h.begin ∙ begin; second-begin = k.begin ∙ begin'; end = end ∙ sym (cc (h.end, k.end)) })

-- And the two from what stands beneath their parent: sizes say where the second begins.
module _ {n o m p : ℕ} {r s : Reading} (First : Run) (Second : Entry → Run) (Spans : Entry → Entry → Type 0) (h : Headed n o r) (k : Headed m p s)
    (sizes : Sizes First) (c : Children First Second Spans (r.entries ++ s.entries)) where
  split : ((h.own ∷ h.beneath) ≡ (c.first ∷ c.firsts)) × (s.entries ≡ (c.second ∷ c.seconds))
  split =
      split_sized h.own c.first h.beneath c.firsts s.entries (c.second ∷ c.seconds) h.size (sizes c.first c.firsts c.first_fits)
      (ap (λ es. es ++ s.entries) (sym h.entries) ∙ c.are)

  pub first_asked : Asked First r.entries
  first_asked = subst (Asked First) (sym (h.entries ∙ split.0)) c.first_fits

  pub second_asked : Asked (Second h.own) s.entries
  second_asked =
      let same : c.first ≡ h.own = cc split.0 in
      subst (Asked (Second h.own)) (sym split.1) (subst (λ f. Second f c.second c.seconds) same c.second_fits)
