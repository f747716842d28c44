-- The tests of one node, 2, 3, 5, 6, 7, 8: a node at which nothing is found passed them all, and a refusal gives that node.
use Prim.Native.Nat.{ℕ, ◌+◌}
use mathlib.Core.Bool.{Bool, false, not}
use mathlib.Core.List.{List}
use mathlib.Core.Option.{none, some}
use mathlib.Core.Path.{◌≡◌}
use native.Mathlib.Omega.{arith}
use lib.Dec.{leb, ltb}
use lib.ListN.{length}
use Rattle.description.specs.Check.{refuse_if, first_of, some_not_smaller, some_named_before, some_no_number, named_by, node_at, node_end, node_refusal}
use Rattle.description.specs.Kinds.{byte, kinds, row_of}
use Rattle.description.specs.Nodes.{Node, children, must_be_numbers}
use Rattle.description.specs.Refusals.{refusal_node}
use Rattle.description.specs.declared.Refusal.{Refusal}

module _ (desc : List ℕ) (before : List Node) (i : ℕ) where
  abbrev pub unknown : Bool
  unknown = leb (length kinds) (byte desc i)

  abbrev pub cut : Bool
  cut = ltb (length desc) (node_end desc i)

  abbrev pub unlisted : Bool
  unlisted = not ((row_of (byte desc i)).listed desc (i + 1))

  abbrev pub not_smaller : Bool
  not_smaller = some_not_smaller (length before) (children (node_at desc i))

  abbrev pub named_before : Bool
  named_before = some_named_before (named_by before) (children (node_at desc i))

  abbrev pub no_number : Bool
  no_number = some_no_number before (must_be_numbers (node_at desc i))

  -- all six tests passed
  pub record Passed : Type 0 where
    pub kind : unknown ≡ false
    pub whole : cut ≡ false
    pub listed : unlisted ≡ false
    pub smaller : not_smaller ≡ false
    pub new : named_before ≡ false
    pub number : no_number ≡ false

  pub passed : node_refusal desc before i ≡ none → Passed
  unfolding node_refusal first_of refuse_if
  passed e = record {
    kind = grind arith;
    whole = grind arith;
    listed = grind arith;
    smaller = grind arith;
    new = grind arith;
    number = grind arith;
  }

  -- the node that a refusal gives is as many as stand before
  pub gives-node : (r : Refusal) → node_refusal desc before i ≡ some r → refusal_node r ≡ length before
  unfolding node_refusal first_of refuse_if
  gives-node r found = grind arith
