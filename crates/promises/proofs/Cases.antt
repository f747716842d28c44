-- The promises at work: for each theorem a call, or a table, that meets its hypotheses.
use Prim.Native.Nat.{ℕ, zero, suc}
use mathlib.Core.Bool.{false}
use mathlib.Core.List.{List, [], ◌∷◌}
use mathlib.Core.Logic.{inl}
use mathlib.Core.Option.{some}
use mathlib.Core.Path.{◌≡◌, refl}
use native.Mathlib.Omega.{arith}
use lib.Dec.{lit≤, lit<}
use lib.IntN.{negsuc}
use Rattle.bits.specs.Bits.{total, number}
use Rattle.description.specs.Check.{accepted, is_in, meaning}
use Rattle.description.specs.Nodes.{subtract, constant, bound}
use Rattle.description.specs.Trees.{Tree, unit, bottom, bits, signed, bind, either, sequence, compute, absorb}
use Rattle.description.proofs.Ranges.{between}
use Rattle.rules.specs.Entries.{Entry}
use Rattle.rules.specs.Outcome.{success, no_room, outcome}
use Rattle.rules.specs.Reading.{done_at, read}
use Rattle.rules.specs.Rounds.{rounds}
use Rattle.rules.proofs.Evaluate.{evaluated}
use Rattle.rules.proofs.FittingCases.{entry, absorbed}
use Rattle.promises.specs.Missing.{Told}
use Rattle.promises.specs.Places.{here, turns, place_in, place_of, FitsAt, absorbs, NoneAbsorbed, ZeroErrorsFit}
use Rattle.promises.specs.Spans.{Spans}
use Rattle.promises.specs.Table.{entry_at, after, entries, beneath}
use Rattle.promises.proofs.Accepted.{accepted-sound}
use Rattle.promises.proofs.Bounds.{sequence-bound}
use Rattle.promises.proofs.Copied.{Copy, copied-bits, copied-signed}
use Rattle.promises.proofs.EachEntry.{zero_errors_fit, fits_zero_errors}
use Rattle.promises.proofs.Missing.{missing_told}
use Rattle.promises.proofs.Sound.{Sound}
use Rattle.promises.proofs.Spanning.{success-spans}
use Rattle.promises.proofs.Stuck.{with_room, without_room}

-- Case A: two counters of 16 bits and the use between them, where the counter turns.
abbrev pub counters : List ℕ
counters =
    0x02 ∷ 0x10 ∷ 0x02 ∷ 0x10 ∷ 0x0a ∷ 0x10 ∷ 0x01 ∷ 0x01 ∷ 0x00 ∷ 0x00 ∷ 0x00 ∷ 0x00 ∷ 0x01 ∷ 0x00 ∷ 0x00 ∷ 0x00 ∷ 0x01
    ∷ 0x05 ∷ 0x01 ∷ 0x02 ∷ 0x05 ∷ 0x00 ∷ 0x03 ∷ []

abbrev pub turned : List ℕ
turned = 0xff ∷ 0xfa ∷ 0x00 ∷ 0x04 ∷ []

abbrev pub counters-tree : Tree
counters-tree = bind 4 (bits 0 16) (bind 3 (bits 1 16) (compute 2 16 subtract (bound 0) (bound 1)))

pub counters_mean : meaning counters ≡ accepted counters-tree
unfolding evaluated
counters_mean = refl

pub turned-read : (outcome 20 20 counters turned).answer ≡ success 5 32
unfolding evaluated
turned-read = refl

-- the tree is sound
counters-sound : Sound counters-tree
counters-sound = accepted-sound counters counters-tree counters_mean

-- with room for 5 entries it is a success, and with room for 4 it is not
roomy : (outcome 20 20 counters turned).answer ≡ success 5 32
unfolding evaluated
roomy = with_room 20 20 counters turned counters-tree counters_mean (lit≤ tt) (lit≤ tt)

crowded : (outcome 16 16 counters turned).answer ≡ no_room
unfolding evaluated
crowded = without_room 16 16 counters turned counters-tree counters_mean (lit≤ tt) (lit< tt)

abbrev at : ℕ → Entry
at = entry_at (outcome 20 20 counters turned).values (outcome 20 20 counters turned).descriptors

turned-spans : Spans at 5 32
unfolding total
turned-spans = success-spans 20 20 counters turned 5 32 turned-read

-- the use, entry 4, has zero errors and fits; so does the whole record, and from that it has zero errors
no_errors : ((at 4).errors ≡ 0) × ((at 0).errors ≡ 0)
unfolding evaluated entry_at
no_errors = (refl, refl)

use_fits : FitsAt turned counters-tree at 4
use_fits = zero_errors_fit 20 20 counters turned 5 32 turned-read counters-tree counters_mean 4 (lit< tt) no_errors.0

record_fits : FitsAt turned counters-tree at 0
record_fits = zero_errors_fit 20 20 counters turned 5 32 turned-read counters-tree counters_mean 0 (lit< tt) no_errors.1

record_clean : (at 0).errors ≡ 0
unfolding absorbs is_in
record_clean = fits_zero_errors 20 20 counters turned 5 32 turned-read counters-tree counters_mean 0 (lit< tt) record_fits (λ k from to. refl)

-- a sequence of 5 bits over one byte has the same rounds with 100 allowed as with 8
five_bits : (let done = done_at (0x00 ∷ []) (negsuc 0) (read (0x00 ∷ []) (bottom 2) []) in
    rounds (read (0x00 ∷ []) (bits 0 5) []) (read (0x00 ∷ []) (unit 1) []) done 100 0
    ≡ rounds (read (0x00 ∷ []) (bits 0 5) []) (read (0x00 ∷ []) (unit 1) []) done 8 0)
unfolding total
five_bits = sequence-bound (0x00 ∷ []) (bits 0 5) (unit 1) (bottom 2) (negsuc 0) [] 100 0 (lit≤ tt) (lit≤ tt)

-- Case A over FF FA 00: 8 of the 16 bits of the second counter, entry 3, are missing.
abbrev pub cut : List ℕ
cut = 0xff ∷ 0xfa ∷ 0x00 ∷ []

pub cut-read : (outcome 20 20 counters cut).answer ≡ success 5 16
unfolding evaluated
cut-read = refl

abbrev cut_at : ℕ → Entry
cut_at = entry_at (outcome 20 20 counters cut).values (outcome 20 20 counters cut).descriptors

cut_told : Told cut 16 (cut_at 3)
unfolding evaluated entry_at place_of place_in here turns after
cut_told =
    missing_told 20 20 counters cut 5 16 cut-read counters-tree counters_mean 3 (lit< tt) (record { tree = bits 1 16; lent = _ }) refl 16 (1, inl refl)

cut-detail : (cut_at 3).detail ≡ 8
unfolding evaluated entry_at
cut-detail = refl

-- An absorb in the part that an either did not take: no entry is of it, and the either has zero errors because it fits.
abbrev choice : List ℕ
choice = 0x02 ∷ 0x08 ∷ 0x02 ∷ 0x08 ∷ 0x0b ∷ 0x00 ∷ 0x06 ∷ 0x01 ∷ 0x02 ∷ []

abbrev choice-tree : Tree
choice-tree = either 3 (bits 1 8) (absorb 2 (bits 0 8))

choice-means : meaning choice ≡ accepted choice-tree
unfolding evaluated
choice-means = refl

choice-read : (outcome 8 8 choice (0x2a ∷ [])).answer ≡ success 2 8
unfolding evaluated
choice-read = refl

abbrev choice-at : ℕ → Entry
choice-at = entry_at (outcome 8 8 choice (0x2a ∷ [])).values (outcome 8 8 choice (0x2a ∷ [])).descriptors

choice-errors : (choice-at 0).errors ≡ 0
unfolding evaluated entry_at
choice-errors = refl

choice-fits : FitsAt (0x2a ∷ []) choice-tree choice-at 0
choice-fits = zero_errors_fit 8 8 choice (0x2a ∷ []) 2 8 choice-read choice-tree choice-means 0 (lit< tt) choice-errors

choice-none : NoneAbsorbed choice-tree choice-at 0
unfolding absorbs is_in evaluated entry_at after
choice-none = between (λ k. is_in (choice-at k).node (absorbs choice-tree) ≡ false) 0 2 (refl, (refl, tt))

choice-clean : (choice-at 0).errors ≡ 0
choice-clean = fits_zero_errors 8 8 choice (0x2a ∷ []) 2 8 choice-read choice-tree choice-means 0 (lit< tt) choice-fits choice-none

-- Without its words on absorbed parts the second half of demand 3 is false: this absorb fits and has 1 error.
abbrev held : List ℕ
held = 0x02 ∷ 0x05 ∷ 0x00 ∷ 0x01 ∷ 0x09 ∷ 0x00 ∷ 0x01 ∷ 0x02 ∷ 0x00 ∷ 0xff ∷ 0xff ∷ 0xff ∷ 0xff ∷ 0x0b ∷ 0x03 ∷ []

abbrev held-tree : Tree
held-tree = absorb 4 (sequence 3 (bits 0 5) (unit 1) (bottom 2) (constant (negsuc 0)))

held-means : meaning held ≡ accepted held-tree
unfolding evaluated
held-means = refl

abbrev held_at : ℕ → Entry
held_at = entry_at (outcome 4 4 held (0x00 ∷ [])).values (outcome 4 4 held (0x00 ∷ [])).descriptors

held_fits : FitsAt (0x00 ∷ []) held-tree held_at 0
unfolding evaluated entry_at beneath entries place_of place_in here
held_fits = record { place = record { tree = held-tree; lent = [] }; is = refl; fits = absorbed }

held-errors : (held_at 0).errors ≡ 1
unfolding evaluated entry_at
held-errors = refl

-- A sequence of bytes over 01 02, with the first element's entry copied for the second.
copied : ℕ → Entry
copied zero = entry 3 0 16 0 0 0 2 4
copied (suc zero) = entry 0 0 8 0 0 1 0 1
copied (suc (suc zero)) = entry 1 8 8 0 0 0 0 1
copied (suc (suc (suc i))) = entry 0 8 16 0 0 1 0 1

abbrev of_elements : Tree → Tree
of_elements t = sequence 3 t (unit 1) (bottom 2) (constant (negsuc 0))

-- by the place of the two elements
copy : (t : Tree) → place_of (of_elements t) copied 1 ≡ some (record { tree = t; lent = [] })
    → place_of (of_elements t) copied 3 ≡ some (record { tree = t; lent = [] }) → Copy (of_elements t) copied 4 t 1 3
unfolding copied
copy t first later =
    record {
      lent = [];
      first = lit< tt;
      later = lit< tt;
      first_of = first;
      later_of = later;
      first-clean = refl;
      later-clean = refl;
      number = refl;
    }

-- the first byte is 1 and the second is 2
differ : number (0x01 ∷ 0x02 ∷ []) (copied 3).begin 8 ≡ number (0x01 ∷ 0x02 ∷ []) (copied 1).begin 8 → ⊥
unfolding evaluated copied
differ e = let two_is_one : ◌≡◌ {A = ℕ} 2 1 = e in omega arith

bits_caught : ZeroErrorsFit (0x01 ∷ 0x02 ∷ []) (of_elements (bits 0 8)) copied 4 → ⊥
unfolding copied place_of place_in here turns after
bits_caught demand = copied-bits (0x01 ∷ 0x02 ∷ []) (of_elements (bits 0 8)) copied 4 demand 1 3 0 8 (copy (bits 0 8) refl refl) differ

signed_caught : ZeroErrorsFit (0x01 ∷ 0x02 ∷ []) (of_elements (signed 0 8)) copied 4 → ⊥
unfolding copied place_of place_in here turns after
signed_caught demand = copied-signed (0x01 ∷ 0x02 ∷ []) (of_elements (signed 0 8)) copied 4 demand 1 3 0 8 (copy (signed 0 8) refl refl) differ
