-- Evaluation: whoever says `unfolding evaluated` has the checker compute a call's outcome to its numbers and words (docs/EVALUATING.md).
use Prim.Native.Nat.{ℕ}
use mathlib.Core.List.{List}
use Rattle.bits.specs.Bits.{total, bit, number}
use Rattle.bits.specs.Whole.{twos_complement, modulo, word, same_z}
use Rattle.description.specs.Limits.{most_bytes, most_nodes}
use Rattle.description.specs.Nodes.{children, is_number, must_be_numbers}
use Rattle.description.specs.Kinds.{byte, is_width, is_signed_width, relations, is_relation, relation, operators, is_operator, operator, is_operand, operand, unit_row, kinds, row_of}
use Rattle.description.specs.Trees.{tree, trees_after, root_tree}
use Rattle.description.specs.Binds.{needs_of, needs}
use Rattle.description.specs.Check.{refuse_if, first_of, is_in, some_not_smaller, some_named_before, some_no_number, named_by, never_named, node_at, node_end, node_refusal, nodes_from, tree_refusal, meaning}
use Rattle.rules.specs.Entries.{reading, any}
use Rattle.rules.specs.Numbers.{value_of, holds, result}
use Rattle.rules.specs.Rounds.{ended, part, first_round, next_round, rounds_after, rounds}
use Rattle.rules.specs.Tries.{first_start}
use Rattle.rules.specs.Reading.{code_for, two_sides, read_bits, done_at, read}
use Rattle.rules.specs.Tables.{value_words, descriptor_words, room, table}
use Rattle.rules.specs.Outcome.{Stated, stated, most_input, refusing, succeeding, outcome}

-- What a call states, and both tables afterwards.
pub record Evaluated : Type 0 where
  pub states : Stated
  pub values : List ℕ
  pub descriptors : List ℕ

-- A description's bytes and an input's, with tables of so many words.
unfoldable pub evaluated : (description input : List ℕ) → (values descriptors : ℕ) → Evaluated
unfolding total bit number twos_complement modulo word same_z
    most_bytes most_nodes children is_number must_be_numbers
    byte is_width is_signed_width relations is_relation relation operators is_operator operator is_operand operand unit_row kinds row_of
    tree trees_after root_tree needs_of needs
    refuse_if first_of is_in some_not_smaller some_named_before some_no_number named_by never_named node_at node_end node_refusal nodes_from tree_refusal meaning
    reading any value_of holds result code_for two_sides ended part first_round next_round rounds_after rounds first_start read_bits done_at read
    value_words descriptor_words room table stated most_input refusing succeeding outcome
evaluated description input values descriptors =
    let o = outcome values descriptors description input in
    record { states = stated o.answer; values = o.values; descriptors = o.descriptors }

-- A type to ask for: the goal of a hole of it shows what was evaluated.
pub data Shown (e : Evaluated) : Type 0 where
