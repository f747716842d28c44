-- The entries of a table, one after another.
use Rattle.std.proofs.Common.{◌≡◌, ℕ, zero, suc, ◌+◌, ◌*◌, add-zero, ◌<◌, ◌≤◌, Bool, true, false, not, List, [], ◌∷◌, ◌++◌, length, take, drop, get_or, sym, refl, ap, ap₂, ◌∙◌, arith, le-ltb, lt-ltb}
use Rattle.std.specs.List.{list_any, flat_map}
use Rattle.std.specs.Simd.{first_chunks}
use Rattle.std.proofs.lemmas.List.{take_more, take_all, drop-drop, flat_map_more, get_or-take, get_or-drop}
use Rattle.std.proofs.lemmas.List.Folds.{list_any_more, list_any_at}
use Rattle.writing.specs.Bits.{in_width, field_bits, of_width}
use Rattle.writing.specs.Entries.{entry_words, node_at, number_at, field_at, is_wrong, some_wrong, bits_from}
use Rattle.writing.specs.Outcome.{refusing, writing}
use Rattle.writing.specs.declared.Refused.TheVariants.{WrongTable}
use Rattle.writing.specs.declared.Field.{Field}
use Rattle.writing.specs.declared.Field.TheVariants.{Nothing}
use Rattle.writer.specs.Inner.Entries.{wrong_entry, entry_bits, entered}

module _ (fields : List Field) where
  -- an entry, by its node and its number
  module _ (entry : List ℕ) where
    pub wrong-node : length fields ≤ get_or entry 0 0 → wrong_entry fields entry ≡ true
    unfolding wrong_entry is_wrong node_at entry_words
    wrong-node h = rw (le-ltb (get_or entry 0 0) (length fields) h)

    -- and where its field is f
    module _ (f : Field) (h : get_or entry 0 0 < length fields) (is : f ≡ get_or fields (get_or entry 0 0) Nothing) where
      pub wrong-number : wrong_entry fields entry ≡ not (of_width f (get_or entry 1 0))
      unfolding wrong_entry is_wrong field_at node_at number_at entry_words
      wrong-number = rw (lt-ltb (get_or entry 0 0) (length fields) h, ← is) refl

      pub right-none : f ≡ Nothing → wrong_entry fields entry ≡ false
      unfolding of_width
      right-none e = wrong-number ∙ rw e refl

      pub bits-are : entry_bits fields entry ≡ field_bits f (get_or entry 1 0)
      unfolding entry_bits field_at node_at number_at entry_words
      bits-are = rw (← is) refl

      pub bits-none : f ≡ Nothing → entry_bits fields entry ≡ []
      unfolding field_bits in_width
      bits-none e = bits-are ∙ rw e refl

  -- One more entry.
  module _ (entries : List (List ℕ)) (i : ℕ) (here : i < length entries) where
    pub right-more : list_any (wrong_entry fields) (take i entries) ≡ false → wrong_entry fields (get_or entries i []) ≡ false
        → list_any (wrong_entry fields) (take (i + 1) entries) ≡ false
    right-more before right = list_any_more (wrong_entry fields) entries i [] here ∙ rw (before, right) refl

    pub bits-more : flat_map (entry_bits fields) (take (i + 1) entries) ≡ flat_map (entry_bits fields) (take i entries) ++ entry_bits fields (get_or entries i [])
    bits-more = ap (flat_map (entry_bits fields)) (take_more entries i [] here) ∙ sym (flat_map_more (entry_bits fields) [] (take i entries) (get_or entries i []))

    -- what a wrong one leaves of a call
    pub wrong-entered : (n : ℕ) → wrong_entry fields (get_or entries i []) ≡ true → entered n fields entries ≡ refusing n WrongTable
    unfolding entered
    wrong-entered n wrong = rw (list_any_at (wrong_entry fields) entries i [] here wrong, entered)

  -- All of them.
  pub right-entered : (entries : List (List ℕ)) (i m n : ℕ) → m ≡ n → length entries ≤ i → list_any (wrong_entry fields) (take i entries) ≡ false
      → writing m (flat_map (entry_bits fields) (take i entries)) ≡ entered n fields entries
  unfolding entered
  right-entered entries i m n long all right =
      rw (long, take_all i entries all) (rw (rw (take_all i entries all) at right, entered) refl)

-- The chunks of a table are its entries.
module _ (values : List ℕ) where
  word : (i j : ℕ) → j < 4 → get_or (take 4 (drop (4 * i) values)) j 0 ≡ get_or values (4 * i + j) 0
  word i j h = get_or-take 4 (drop (4 * i) values) j 0 h ∙ get_or-drop (4 * i) values j 0

  same-node : (i : ℕ) → node_at (take 4 (drop (4 * i) values)) 0 ≡ node_at values i
  unfolding node_at entry_words
  same-node i = word i 0 (omega arith) ∙ ap (λ (k : ℕ). get_or values k 0) (add-zero (4 * i))

  same-number : (i : ℕ) → number_at (take 4 (drop (4 * i) values)) 0 ≡ number_at values i
  unfolding number_at entry_words
  same-number i = word i 1 (omega arith)

  next : (i : ℕ) → drop 4 (drop (4 * i) values) ≡ drop (4 * suc i) values
  next i = drop-drop 4 (4 * i) values ∙ ap (λ (k : ℕ). drop k values) (omega arith)

  module _ (fields : List Field) where
    wrong-chunks : (i k : ℕ) → list_any (wrong_entry fields) (first_chunks 4 k (drop (4 * i) values)) ≡ some_wrong values fields i k
    unfolding some_wrong wrong_entry is_wrong field_at
    wrong-chunks i zero = refl
    wrong-chunks i (suc k) = rw (same-node i, same-number i, next i, wrong-chunks (suc i) k) refl

    bits-chunks : (i k : ℕ) → flat_map (entry_bits fields) (first_chunks 4 k (drop (4 * i) values)) ≡ bits_from values fields i k
    unfolding bits_from entry_bits field_at
    bits-chunks i zero = refl
    bits-chunks i (suc k) = rw (same-node i, same-number i, next i, bits-chunks (suc i) k) refl

    pub entered-chunks : (n count : ℕ) → entered n fields (first_chunks 4 count values)
        ≡ elim (some_wrong values fields 0 count) [ true ↦ refusing n WrongTable | false ↦ writing n (bits_from values fields 0 count) ]
    unfolding entered
    entered-chunks n count =
        ap₂ (λ (wrong : Bool) (bits : List ℕ). elim wrong [ true ↦ refusing n WrongTable | false ↦ writing n bits ])
        (wrong-chunks 0 count) (bits-chunks 0 count)

-- The first chunks of those that there are.
pub take-chunks : (n count k : ℕ) (values : List ℕ) → count ≤ k → take count (first_chunks n k values) ≡ first_chunks n count values
take-chunks n zero k values h = refl
take-chunks n (suc count) zero values h = absurd (omega arith)
take-chunks n (suc count) (suc k) values h = ap (λ (l : List (List ℕ)). take n values ∷ l) (take-chunks n count k (drop n values) (omega arith))
