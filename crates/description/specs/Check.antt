-- The check. "Order: 1; then node by node from the front 4, 2, 3, 5, 6, 7, 8; then 9 to 13", of which 12 and 13 are the reader's. Request 4: "no
-- description reaches refusal 11".
use Rattle.std.specs.Prelude.{ℕ, zero, suc, ◌+◌, ◌-◌, Bool, true, false, not, ◌||◌, List, [], ◌∷◌, ◌++◌, eqb, leb, ltb, length, get_or, Result, Ok, Err}
use Rattle.std.specs.List.{list_any}
use Rattle.std.proofs.Math.Option.{Option, none, some}
use Rattle.description.specs.Limits.{most_bytes, most_nodes}
use Rattle.description.specs.Nodes.{Node, unit, children, is_number, must_be_numbers}
use Rattle.description.specs.Kinds.{byte, kinds, row_of}
use Rattle.description.specs.Trees.{Tree, root_tree}
use Rattle.description.specs.Binds.{needs}
use Rattle.description.specs.declared.Refusal.{Refusal}
use Rattle.description.specs.declared.Refusal.TheVariants.{EmptyOrTooLong, UnknownKind, BodyCutShort, TooManyNodes, NotListed, ChildNotSmaller, ChildNamedBefore, NumberNodeWanted, NeverNamed, NoEnclosingBind}

-- The refusal, where its test holds.
unfoldable pub refuse_if : Bool → Refusal → Option Refusal
refuse_if true r = some r
refuse_if false r = none

-- The first refusal of a list of tests.
unfoldable pub first_of : List (Option Refusal) → Option Refusal
first_of [] = none
first_of (none ∷ rest) = first_of rest
first_of (some r ∷ rest) = some r

-- Whether a number is in a list.
unfoldable pub is_in : ℕ → List ℕ → Bool
is_in c = list_any (eqb c)

-- Some child of the list is not smaller than node n.
unfoldable pub some_not_smaller : ℕ → List ℕ → Bool
some_not_smaller n = list_any (leb n)

-- Some child of the list is "named before, also twice in one node".
unfoldable pub some_named_before : List ℕ → List ℕ → Bool
some_named_before named [] = false
some_named_before named (c ∷ cs) = is_in c named || some_named_before (c ∷ named) cs

-- Some child of the list is no number node.
unfoldable pub some_no_number : List Node → List ℕ → Bool
some_no_number nodes = list_any (λ c. not (is_number (get_or nodes c unit)))

-- The children that the nodes name.
unfoldable pub named_by : List Node → List ℕ
named_by [] = []
named_by (node ∷ nodes) = children node ++ named_by nodes

-- "a node never named": "the lowest" from i on, among `left` nodes.
unfoldable pub never_named : List ℕ → ℕ → ℕ → Option Refusal
never_named named i zero = none
never_named named i (suc left) = elim (is_in i named) [ true ↦ never_named named (suc i) left | false ↦ some (NeverNamed i) ]

-- The nodes of a description, or the refusal at which the parse stops.
pub data Parsed : Type 0 where
  parsed : List Node → Parsed
  stopped : Refusal → Parsed

module _ (desc : List ℕ) where
  -- The node that begins at byte i: "one byte of kind, then a body whose length the kind fixes".
  unfoldable pub node_at : ℕ → Node
  node_at i = (row_of (byte desc i)).node desc (i + 1)

  -- Where the node that begins at byte i ends.
  unfoldable pub node_end : ℕ → ℕ
  node_end i = i + 1 + (row_of (byte desc i)).bytes

  -- "2, 3, 5, 6, 7, 8", for the node that begins at byte i, after the nodes before it.
  unfoldable pub node_refusal : List Node → ℕ → Option Refusal
  node_refusal before i =
      let n = length before in
      let node = node_at i in
      first_of
      (refuse_if (leb (length kinds) (byte desc i)) (UnknownKind n)  -- 2
      ∷ refuse_if (ltb (length desc) (node_end i)) (BodyCutShort n)  -- 3
      ∷ refuse_if (not ((row_of (byte desc i)).listed desc (i + 1))) (NotListed n)  -- 5
      ∷ refuse_if (some_not_smaller n (children node)) (ChildNotSmaller n)  -- 6
      ∷ refuse_if (some_named_before (named_by before) (children node)) (ChildNamedBefore n)  -- 7
      ∷ refuse_if (some_no_number before (must_be_numbers node)) (NumberNodeWanted n)  -- 8
      ∷ [])

  -- "node by node from the front": the nodes from byte i on, after the nodes before them, where `left` more may begin.
  unfoldable pub nodes_from : ℕ → List Node → ℕ → Parsed
  nodes_from zero before i = elim (ltb i (length desc)) [ true ↦ stopped TooManyNodes | false ↦ parsed before ]
  nodes_from (suc left) before i =
      elim (ltb i (length desc)) [
        | true ↦
            elim (node_refusal before i) [
              | some r ↦ stopped r
              | none ↦ nodes_from left (before ++ (node_at i ∷ [])) (node_end i)
            ]
        | false ↦ parsed before
      ]

-- 9 and 10, for all nodes together: "Each node except the last is named".
unfoldable pub tree_refusal : List Node → Option Refusal
tree_refusal nodes =
    let root = length nodes - 1 in
    first_of
    (never_named (named_by nodes) 0 root  -- 9
    ∷ refuse_if (ltb 0 (needs (root_tree nodes))) (NoEnclosingBind root)  -- 10
    ∷ [])

-- What a description means: the tree of its root, or the first refusal.
pub data Meaning : Type 0 where
  accepted : Tree → Meaning
  refused : Refusal → Meaning

-- "description empty or over 1,024 bytes", then the nodes, then the tree.
unfoldable pub meaning : List ℕ → Meaning
meaning desc =
    elim (eqb (length desc) 0 || ltb most_bytes (length desc)) [
      | true ↦ refused EmptyOrTooLong
      | false ↦
          elim (nodes_from desc most_nodes [] 0) [
            | stopped r ↦ refused r
            | parsed nodes ↦ elim (tree_refusal nodes) [ some r ↦ refused r | none ↦ accepted (root_tree nodes) ]
          ]
    ]

-- "The check alone".
unfoldable pub verdict : Meaning → Result (Unit {0}) Refusal
verdict (accepted t) = Ok tt
verdict (refused r) = Err r

unfoldable pub checked : List ℕ → Result (Unit {0}) Refusal
checked desc = verdict (meaning desc)
