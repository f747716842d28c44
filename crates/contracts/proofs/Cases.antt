-- Calls that the reader's contract allows, and that meet the hypotheses of what is shown of callers and of wrong readers.
use Prim.Native.Nat.{ℕ, ◌≤◌, ◌<◌}
use mathlib.Core.Bool.{false}
use mathlib.Core.List.{[], ◌∷◌}
use mathlib.Core.Logic.{◌⊎◌}
use mathlib.Core.Path.{◌≡◌, refl}
use lib.Dec.{lit≤}
use lib.IntN.{negsuc}
use lib.ListN.{length}
use Rattle.std.specs.Prelude.{Result, Ok, Err}
use Rattle.bits.specs.Bits.{total, bit}
use Rattle.description.specs.Check.{accepted, meaning}
use Rattle.description.specs.Nodes.{constant}
use Rattle.description.specs.Trees.{Tree, unit, bottom, bits, sequence}
use Rattle.rules.specs.Outcome.{Outcome, most_input, outcome}
use Rattle.rules.specs.Reading.{read}
use Rattle.rules.specs.Tables.{room}
use Rattle.rules.proofs.Evaluate.{evaluated}
use Rattle.promises.specs.Missing.{MissingTold}
use Rattle.promises.specs.Places.{ZeroErrorsFit, FitsZeroErrors}
use Rattle.promises.specs.Spans.{Spans}
use Rattle.promises.specs.Table.{entry_at}
use Rattle.promises.proofs.Cases.{counters, turned, counters-tree, counters_mean, cut}
use Rattle.writing.specs.Fields.{fields_of, some_unwritable}
use Rattle.writing.specs.Outcome as writing
use Rattle.writing.specs.Outcome.{given as written}
use Rattle.writing.specs.declared.Refused.{Refused}
use Rattle.writing.proofs.Evaluate.{evaluated as evaluating}
use Rattle.reader.specs.Answers.{said, given}
use Rattle.reader.specs.declared.Refused.TheVariants.{NoRoom}
use Rattle.contracts.proofs.Determined.{success_with}
use Rattle.contracts.proofs.Callers.{caller_unstuck, caller_spans, caller_fits, caller_clean, caller_missing}
use Rattle.contracts.proofs.Returns.{caller_returned}
use Rattle.contracts.proofs.WrongReaders.{elements, entry-count, element-count}

-- case A's call
abbrev o : Outcome
o = outcome 20 20 counters turned

turned_call : given (success_with 5 32) o.values o.descriptors ≡ o
unfolding evaluated given said
turned_call = refl

turned_unstuck : (let n = length (read turned counters-tree [] 0).entries in
    ((n ≤ 5) × (success_with 5 32 ≡ success_with n (read turned counters-tree [] 0).end)) ⊎ ((5 < n) × (success_with 5 32 ≡ Err NoRoom)))
unfolding room most_input
turned_unstuck = caller_unstuck 20 20 counters turned counters-tree counters_mean (lit≤ tt) (success_with 5 32) o.values o.descriptors turned_call

turned-spans : Spans (entry_at o.values o.descriptors) 5 32
unfolding total
turned-spans = caller_spans 20 20 counters turned 5 32 o.values o.descriptors turned_call

turned-fits : ZeroErrorsFit turned counters-tree (entry_at o.values o.descriptors) 5
turned-fits = caller_fits 20 20 counters turned 5 32 o.values o.descriptors turned_call counters-tree counters_mean

turned-clean : FitsZeroErrors turned counters-tree (entry_at o.values o.descriptors) 5
turned-clean = caller_clean 20 20 counters turned 5 32 o.values o.descriptors turned_call counters-tree counters_mean

turned-count : 5 ≡ length (read turned counters-tree [] 0).entries
turned-count = entry-count 20 20 counters turned 5 32 o.values o.descriptors turned_call counters-tree counters_mean

-- case A's table, written back into four bytes
turned-written : written (Ok 32) turned ≡ writing.outcome 4 counters o.values 5
unfolding evaluating written
turned-written = refl

turned_clean_root : (entry_at o.values o.descriptors 0).errors ≡ 0
unfolding evaluated entry_at
turned_clean_root = refl

counters-writable : some_unwritable (fields_of counters) ≡ false
unfolding evaluating
counters-writable = refl

turned-returned : (◌≡◌ {A = Result ℕ Refused} (Ok 32) (Ok 32)) × ((k : ℕ) → k < 32 → bit turned k ≡ bit turned k)
unfolding evaluating
turned-returned =
    caller_returned 20 20 counters turned 5 32 o.values o.descriptors turned_call turned_clean_root counters-writable 4 (lit≤ tt) (Ok 32) turned
    turned-written

-- case A over FF FA 00
abbrev short : Outcome
short = outcome 20 20 counters cut

cut_call : given (success_with 5 16) short.values short.descriptors ≡ short
unfolding evaluated given said
cut_call = refl

cut_told : MissingTold cut counters-tree (entry_at short.values short.descriptors) 5
cut_told = caller_missing 20 20 counters cut 5 16 short.values short.descriptors cut_call counters-tree counters_mean

-- bytes over 01 02
abbrev two : Outcome
two = outcome 16 16 elements (0x01 ∷ 0x02 ∷ [])

abbrev elements-tree : Tree
elements-tree = sequence 3 (bits 0 8) (unit 1) (bottom 2) (constant (negsuc 0))

elements_mean : meaning elements ≡ accepted elements-tree
unfolding evaluated
elements_mean = refl

two_call : given (success_with 4 16) two.values two.descriptors ≡ two
unfolding evaluated given said
two_call = refl

two-elements : (entry_at two.values two.descriptors 0).detail ≡ 2
unfolding evaluated
two-elements =
    element-count 16 16 elements (0x01 ∷ 0x02 ∷ []) 4 16 two.values two.descriptors two_call elements-tree elements_mean 3 (bits 0 8) (unit 1) (bottom 2)
    (constant (negsuc 0)) refl
