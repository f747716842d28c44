-- Trees whose nodes have their fields, by their numbers, and the tree of a node whose children have theirs.
use Prim.Native.Nat.{ℕ, ◌<◌}
use mathlib.Core.Bool.{false}
use mathlib.Core.List.{List, [], ◌∷◌}
use mathlib.Core.Path.{◌≡◌}
use lib.Dec.{leb}
use lib.ListN.{length, get_or}
use borrow.Author.Tests.{leb-false}
use Rattle.description.proofs.Children.{smaller-parts}
use Rattle.description.specs.Check.{some_not_smaller}
use Rattle.description.specs.Nodes.{Node, children}
use Rattle.description.specs.Trees.{Tree, unit, bottom, bits, signed, then, bind, either, both, where', sequence, compute, absorb, scan, tree}
use Rattle.std.proofs.lemmas.Bool.{or_parts}
use Rattle.writing.specs.Fields.{field_of}
use Rattle.writing.specs.declared.Field.{Field}
use Rattle.writing.specs.declared.Field.TheVariants.{Nothing, Bits, Signed, Unwritable}

module _ (fields : List Field) where
  -- Node n has this field.
  pub record Own (n : ℕ) (f : Field) : Type 0 where
    pub known : n < length fields
    pub is : get_or fields n Nothing ≡ f

  -- Each node of a tree has the field of its kind.
  abbrev pub Fielded : Tree → Type 0
  Fielded (unit n) = Own n Nothing
  Fielded (bottom n) = Own n Nothing
  Fielded (bits n w) = Own n (Bits w)
  Fielded (signed n w) = Own n (Signed w)
  Fielded (then n a b) = Own n Nothing × Fielded a × Fielded b
  Fielded (bind n a b) = Own n Nothing × Fielded a × Fielded b
  Fielded (either n a b) = Own n Nothing × Fielded a × Fielded b
  Fielded (both n a b) = Own n Unwritable × Fielded a × Fielded b
  Fielded (where' n a r x) = Own n Nothing × Fielded a
  Fielded (sequence n e s t x) = Own n Nothing × Fielded e × Fielded s × Fielded t
  Fielded (compute n w f x y) = Own n Nothing
  Fielded (absorb n a) = Own n Unwritable × Fielded a
  Fielded (scan n a) = Own n Unwritable × Fielded a

  -- A node's tree, where the nodes before it have theirs.
  module _ (child : ℕ → Tree) (n : ℕ) (before : (c : ℕ) → c < n → Fielded (child c)) where
    first : (a : ℕ) (cs : List ℕ) → some_not_smaller n (a ∷ cs) ≡ false → Fielded (child a)
    first a cs e = before a (smaller-parts n a cs e).0

    rest : (a : ℕ) (cs : List ℕ) → some_not_smaller n (a ∷ cs) ≡ false → some_not_smaller n cs ≡ false
    rest a cs e = (smaller-parts n a cs e).1

    pub node_fielded : (node : Node) → Own n (field_of node) → some_not_smaller n (children node) ≡ false → Fielded (tree child n node)
    unfolding tree children field_of
    node_fielded Node.unit own e = own
    node_fielded Node.bottom own e = own
    node_fielded (Node.bits w) own e = own
    node_fielded (Node.signed w) own e = own
    node_fielded (Node.then a b) own e = (own, first a (b ∷ []) e, first b [] (rest a (b ∷ []) e))
    node_fielded (Node.bind a b) own e = (own, first a (b ∷ []) e, first b [] (rest a (b ∷ []) e))
    node_fielded (Node.either a b) own e = (own, first a (b ∷ []) e, first b [] (rest a (b ∷ []) e))
    node_fielded (Node.both a b) own e = (own, first a (b ∷ []) e, first b [] (rest a (b ∷ []) e))
    node_fielded (Node.where' a r x) own e = (own, first a [] e)
    node_fielded (Node.sequence a b c x) own e =
        (own, first a (b ∷ c ∷ []) e, first b (c ∷ []) (rest a (b ∷ c ∷ []) e), first c [] (rest b (c ∷ []) (rest a (b ∷ c ∷ []) e)))
    node_fielded (Node.compute w f x y) own e = own
    node_fielded (Node.absorb a) own e = (own, first a [] e)
    node_fielded (Node.scan a) own e = (own, first a [] e)
