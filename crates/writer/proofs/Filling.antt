-- The fields of the first nodes of a description.
use Rattle.std.proofs.Common.{◌≡◌, ℕ, zero, suc, ◌+◌, ◌<◌, Bool, true, false, ◌||◌, List, [], ◌∷◌, ◌++◌, sym, refl, ap, ◌∙◌, add-one, arith}
use mathlib.Core.List.{map-append}
use native.Mathlib.Decide.{ℕ_discrete}
use Rattle.description.specs.Check.{node_at}
use Rattle.description.specs.Places.{start, nodes_to}
use Rattle.std.proofs.lemmas.Bool.{or_left, or_right}
use Rattle.writing.specs.Fields.{field_of, is_unwritable, some_unwritable}
use Rattle.writing.specs.declared.Field.{Field}
use Rattle.writer.specs.Inner.Fields.{node_field, fields_to}

or_false : (a : Bool) → a || false ≡ a
or_false true = refl
or_false false = refl

or_assoc : (a b c : Bool) → (a || b) || c ≡ a || (b || c)
or_assoc true b c = refl
or_assoc false b c = refl

some_snoc : (fs : List Field) (f : Field) → some_unwritable (fs ++ (f ∷ [])) ≡ some_unwritable fs || is_unwritable f
unfolding some_unwritable
some_snoc [] f = or_false (is_unwritable f)
some_snoc (g ∷ fs) f = ap (λ (b : Bool). is_unwritable g || b) (some_snoc fs f) ∙ sym (or_assoc (is_unwritable g) (some_unwritable fs) (is_unwritable f))

module _ (d : List ℕ) where
  pub fields-none : fields_to d 0 ≡ []
  unfolding fields_to nodes_to
  fields-none = refl

  pub fields-more : (k : ℕ) → fields_to d (suc k) ≡ fields_to d k ++ (node_field d k ∷ [])
  unfolding fields_to nodes_to node_field
  fields-more k = map-append field_of (nodes_to d k) (node_at d (start d k) ∷ [])

  pub writable-none : some_unwritable (fields_to d 0) ≡ false
  unfolding some_unwritable
  writable-none = ap some_unwritable fields-none

  pub writable-more : (k : ℕ) → some_unwritable (fields_to d k) ≡ false → is_unwritable (node_field d k) ≡ false → some_unwritable (fields_to d (k + 1)) ≡ false
  writable-more k e f = ap (λ (n : ℕ). some_unwritable (fields_to d n)) (add-one k) ∙ ap some_unwritable (fields-more k) ∙ some_snoc (fields_to d k) (node_field d k) ∙ rw (e, f)

  -- one that is found is among all
  pub unwritable_found : (n k : ℕ) → k < n → is_unwritable (node_field d k) ≡ true → some_unwritable (fields_to d n) ≡ true
  unwritable_found zero k h e = absurd (omega arith)
  unwritable_found (suc n) k h e =
      ap some_unwritable (fields-more n) ∙ some_snoc (fields_to d n) (node_field d n) ∙ go (ℕ_discrete k n) (λ l. unwritable_found n k l e)
    where
      go : Dec (k ≡ n) → (k < n → some_unwritable (fields_to d n) ≡ true) → (some_unwritable (fields_to d n) || is_unwritable (node_field d n)) ≡ true
      go (yes same) before = or_right (some_unwritable (fields_to d n)) (is_unwritable (node_field d n)) (ap (λ (m : ℕ). is_unwritable (node_field d m)) (sym same) ∙ e)
      go (no f) before = or_left (some_unwritable (fields_to d n)) (is_unwritable (node_field d n)) (before (omega arith))
