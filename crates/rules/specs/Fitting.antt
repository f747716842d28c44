-- "Fitting", "defined on bits and entries": nothing here reads.
use Rattle.std.specs.Prelude.{ℕ, suc, ◌+◌, ◌≤◌, max, Bool, true, false, cond, List, [], ◌∷◌, ◌++◌, ◌⊎◌, ◌≡◌, ℤ, pos, length}
use Rattle.bits.specs.Bits.{total, number}
use Rattle.bits.specs.Whole.{twos_complement, modulo}
use Rattle.description.specs.Trees.{Tree, unit, bottom, bits, signed, then, bind, either, both, where', sequence, compute, absorb, scan}
use Rattle.rules.specs.Entries.{Entry}
use Rattle.rules.specs.Numbers.{value_of, holds, result}

-- "a signed node, or ... a where over one, directly or through further wheres"
unfoldable pub is_signed : Tree → Bool
is_signed (unit n) = false
is_signed (bottom n) = false
is_signed (bits n w) = false
is_signed (signed n w) = true
is_signed (then n a b) = false
is_signed (bind n a b) = false
is_signed (either n a b) = false
is_signed (both n a b) = false
is_signed (where' n a r x) = is_signed a
is_signed (sequence n e s t x) = false
is_signed (compute n w f x y) = false
is_signed (absorb n a) = false
is_signed (scan n a) = false

-- The number that the entry of a node records: "the word of a signed node, or of a where over one, ... is taken as two's complement".
unfoldable pub recorded : Tree → Entry → ℤ
recorded t e = cond (is_signed t) (twos_complement 32 e.number) (pos e.number)

-- A subtree's entries are its own, e, and those beneath it, child after child. What is asked of them is a type.
abbrev pub Run : Type 1
Run = Entry → List Entry → Type 0

-- The entry of node n, over the entries that its size counts.
pub record Stands (n : ℕ) (e : Entry) (beneath : List Entry) : Type 0 where
  pub node : e.node ≡ n
  pub size : e.size ≡ suc (length beneath)

-- The entry of a node without children: none stands beneath it.
pub record Leaf (n : ℕ) (e : Entry) (beneath : List Entry) : Type 0 where
  pub stands : Stands n e beneath
  pub alone : beneath ≡ []

-- "The one child of either, where, scan and absorb has its parent's span."
pub record Child (Fit : Run) (e : Entry) (beneath : List Entry) : Type 0 where
  pub child : Entry
  pub run : List Entry
  pub is : beneath ≡ child ∷ run
  pub begin : child.begin ≡ e.begin
  pub end : child.end ≡ e.end
  pub fits : Fit child run

-- Two children; what is asked of the second may name the first's entry.
pub record Children (First : Run) (Second : Entry → Run) (Spans : Entry → Entry → Type 0) (beneath : List Entry) : Type 0 where
  pub first : Entry
  pub firsts : List Entry
  pub second : Entry
  pub seconds : List Entry
  pub are : beneath ≡ (first ∷ firsts) ++ (second ∷ seconds)
  pub first_fits : First first firsts
  pub second_fits : Second first second seconds
  pub spans : Spans first second

-- ""End to end" means that the first part begins at the parent's begin, each next one at the end before it, and the last ends at the parent's end".
pub record EndToEnd (e first second : Entry) : Type 0 where
  pub begin : first.begin ≡ e.begin
  pub next : second.begin ≡ first.end
  pub end : second.end ≡ e.end

-- "Both: both fit from the same begin, the end is the larger."
pub record SameBegin (e first second : Entry) : Type 0 where
  pub first-begin : first.begin ≡ e.begin
  pub second-begin : second.begin ≡ e.begin
  pub end : e.end ≡ max first.end second.end

-- The parts of a sequence from bit p to bit q: "by turns element and separator, first and last an element; all fit, end to end", n elements.
pub data Turns (Element Separator : Run) : (p q n : ℕ) → List Entry → Type 0 where
  last : {p q n : ℕ} {beneath : List Entry} (e : Entry) (run : List Entry)
      → beneath ≡ e ∷ run → n ≡ 1 → e.begin ≡ p → e.end ≡ q → Element e run
      → Turns Element Separator p q n beneath
  more : {p q n : ℕ} {beneath : List Entry} (e : Entry) (run : List Entry) (s : Entry) (srun : List Entry) (rest : List Entry) (m : ℕ)
      → beneath ≡ (e ∷ run) ++ (s ∷ srun) ++ rest → n ≡ suc m → e.begin ≡ p → s.begin ≡ e.end → Element e run → Separator s srun
      → Turns Element Separator s.end q m rest
      → Turns Element Separator p q n beneath

module _ (input : List ℕ) where
  -- The entry e of a node, with the entries beneath it, fits; `lent` are "bound numbers as their entries record them", the nearest bind's first.
  unfoldable pub Fits : Tree → List ℤ → Run
  -- "Unit: empty span."
  Fits (unit n) lent e beneath = Leaf n e beneath × (e.end ≡ e.begin)
  -- "Bottom: never."
  Fits (bottom n) lent e beneath = ⊥
  -- "Bits, signed: a span of w bits inside the input that holds the number."
  Fits (bits n w) lent e beneath =
      Leaf n e beneath × (e.end ≡ e.begin + w) × (e.end ≤ total input) × (e.number ≡ number input e.begin w)
  Fits (signed n w) lent e beneath =
      Leaf n e beneath
      × (e.end ≡ e.begin + w)
      × (e.end ≤ total input)
      × (twos_complement 32 e.number ≡ twos_complement w (number input e.begin w))
  -- "Then, bind: both children fit, end to end."
  Fits (then n first second) lent e beneath =
      Stands n e beneath × Children (Fits first lent) (λ f. Fits second lent) (EndToEnd e) beneath
  Fits (bind n first second) lent e beneath =
      Stands n e beneath × Children (Fits first lent) (λ f. Fits second (recorded first f ∷ lent)) (EndToEnd e) beneath
  -- "Either: the entry beneath is the one that detail names and it fits."
  Fits (either n first second) lent e beneath =
      Stands n e beneath
      × (((e.detail ≡ 1) × Child (Fits first lent) e beneath) ⊎ ((e.detail ≡ 2) × Child (Fits second lent) e beneath))
  -- "Both: both fit from the same begin, the end is the larger."
  Fits (both n first second) lent e beneath =
      Stands n e beneath × Children (Fits first lent) (λ f. Fits second lent) (SameBegin e) beneath
  -- "Where: child fits, number equal, relation true."
  Fits (where' n child relation operand) lent e beneath =
      Stands n e beneath
      × Child (λ c run. Fits child lent c run × (e.number ≡ c.number) × (holds relation (recorded child c) (value_of lent operand) ≡ true)) e beneath
  -- "Sequence: its parts, if any, are by turns element and separator, first and last an element; all fit, end to end, and detail counts the
  -- elements." "with no parts the span is empty"
  Fits (sequence n element separator terminator operand) lent e beneath =
      Stands n e beneath
      × (((beneath ≡ []) × (e.detail ≡ 0) × (e.end ≡ e.begin))
      ⊎ Turns (Fits element lent) (Fits separator lent) e.begin e.end e.detail beneath)
  -- "Compute: empty span and the formula."
  Fits (compute n w operator a b) lent e beneath =
      Leaf n e beneath
      × (e.end ≡ e.begin)
      × (e.number ≡ modulo w (result operator (value_of lent a) (value_of lent b)))
  -- "Scan: detail 0, and a child entry stands beneath it and fits."
  Fits (scan n child) lent e beneath = Stands n e beneath × (e.detail ≡ 0) × Child (Fits child lent) e beneath
  -- "Absorb: some entries for its child over that span fit."
  Fits (absorb n child) lent e beneath = Leaf n e beneath × ((imagined : List Entry) × Child (Fits child lent) e imagined)
