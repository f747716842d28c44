-- Which case a call's outcome is.
use Prim.Native.Nat.{ℕ, min, ◌≤◌, ◌<◌}
use mathlib.Core.Bool.{Bool, true, false, ◌||◌}
use mathlib.Core.List.{List}
use mathlib.Core.Path.{◌≡◌, refl}
use lib.Dec.{ltb}
use lib.ListN.{length, replicate}
use borrow.Author.Tests.{lt-ltb, le-ltb}
use Rattle.std.specs.Prelude.{Ok, Err}
use Rattle.description.specs.Check.{Meaning, accepted, refused, meaning}
use Rattle.description.specs.Trees.{Tree}
use Rattle.description.specs.declared.Refusal.{Refusal}
use Rattle.rules.specs.Outcome.{most_input}
use Rattle.writing.specs.Bits.{bytes_for, packed}
use Rattle.writing.specs.Entries.{holds, some_wrong, bits_from}
use Rattle.writing.specs.Fields.{fields_of, some_unwritable}
use Rattle.writing.specs.Outcome.{Outcome, refusing, writing, outcome}
use Rattle.writing.specs.declared.Refused.{Refused}
use Rattle.writing.specs.declared.Refused.TheVariants.{BadDescription, NotWritable, WrongTable, NoSpace}

module _ (n : ℕ) where
  -- A row of bits, in a buffer that holds it.
  abbrev pub written : List ℕ → Outcome
  written bits = record { answer = Ok (length bits); buffer = packed n bits }

  module _ (bits : List ℕ) where
    pub writing-fits : bytes_for (length bits) ≤ min n most_input → writing n bits ≡ written bits
    unfolding writing
    writing-fits h = rw (le-ltb (min n most_input) (bytes_for (length bits)) h, writing)

    -- 16
    pub writing_over : min n most_input < bytes_for (length bits) → writing n bits ≡ refusing n NoSpace
    unfolding writing
    writing_over h = rw (lt-ltb (min n most_input) (bytes_for (length bits)) h, writing)

  module _ (desc values : List ℕ) (count : ℕ) where
    -- 1 to 10
    pub outcome-refused : (r : Refusal) → meaning desc ≡ refused r → outcome n desc values count ≡ refusing n (BadDescription r)
    unfolding outcome
    outcome-refused r m = rw (m, outcome)

    module _ (t : Tree) (m : meaning desc ≡ accepted t) where
      -- 14
      pub outcome_unwritable : some_unwritable (fields_of desc) ≡ true → outcome n desc values count ≡ refusing n NotWritable
      unfolding outcome
      outcome_unwritable e = rw (m, e, outcome)

      module _ (writable : some_unwritable (fields_of desc) ≡ false) where
        -- 15
        pub outcome-short : holds values < count → outcome n desc values count ≡ refusing n WrongTable
        unfolding outcome
        outcome-short h = rw (m, writable, lt-ltb (holds values) count h, outcome)

        pub outcome-entered : count ≤ holds values
            → outcome n desc values count
            ≡ elim (some_wrong values (fields_of desc) 0 count) [ true ↦ refusing n WrongTable | false ↦ writing n (bits_from values (fields_of desc) 0 count) ]
        unfolding outcome
        outcome-entered h = rw (m, writable, le-ltb (holds values) count h, outcome)

-- A refusal zeroes the whole buffer, whatever the call.
module _ (n : ℕ) where
  abbrev Zeroes : Outcome → Type 0
  Zeroes o = (r : Refused) → o.answer ≡ Err r → o.buffer ≡ replicate n 0

  refusing-zeroes : (r : Refused) → Zeroes (refusing n r)
  unfolding refusing
  refusing-zeroes r = λ s e. refl

  writing-zeroes : (bits : List ℕ) → Zeroes (writing n bits)
  unfolding writing
  writing-zeroes bits = go (ltb (min n most_input) (bytes_for (length bits)))
    where
      go : (over : Bool) → Zeroes (elim over [ true ↦ refusing n NoSpace | false ↦ written n bits ])
      go true = refusing-zeroes NoSpace
      go false = λ r e. absurd (cc)

  pub outcome-zeroes : (desc values : List ℕ) (count : ℕ) → Zeroes (outcome n desc values count)
  unfolding outcome
  outcome-zeroes desc values count =
      let fields = fields_of desc in
      go (meaning desc) (some_unwritable fields) (ltb (holds values) count || some_wrong values fields 0 count) (bits_from values fields 0 count)
    where
      go : (m : Meaning) (unwritable wrong : Bool) (bits : List ℕ)
          → Zeroes (elim m [
            | refused r ↦ refusing n (BadDescription r)
            | accepted tree ↦
                elim unwritable [
                  | true ↦ refusing n NotWritable
                  | false ↦ elim wrong [ true ↦ refusing n WrongTable | false ↦ writing n bits ]
                ]
          ])
      go (refused r) unwritable wrong bits = refusing-zeroes (BadDescription r)
      go (accepted tree) true wrong bits = refusing-zeroes NotWritable
      go (accepted tree) false true bits = refusing-zeroes WrongTable
      go (accepted tree) false false bits = writing-zeroes bits
