-- The operand's five bytes stand inside the body, so the four of a constant are inside the description.
use borrow.Author.Rules.{sfits_of}
use mathlib.Core.List.{List}
use mathlib.Core.Path.{◌≡◌, sym, ap, ◌∙◌}
use Prim.Native.Nat.{ℕ, ◌+◌, ◌*◌, ◌≤◌, ◌<◌}
use native.Mathlib.Omega.{arith}
use lib.IntN.{ℤ}
use lib.ListN.{length, get_or}
use Rattle.std.specs.Prelude.{Ok, None}
use Rattle.std.proofs.Common.{refl, to_z-of_z, w64}
use Rattle.bits.specs.Bits.{total, number}
use Rattle.bits.specs.Lowest.{lowest_signed}
use Rattle.bits.proofs.Answers.{lowest-number}
use Rattle.bits.specs.Whole.{twos_complement}
use Rattle.description.specs.Inner.Children.{bind_named}
use Rattle.description.specs.Kinds.{operand, row_of}
use Rattle.description.specs.Limits.{most_bytes}
use Rattle.description.specs.Nodes.{constant}
use Rattle.description.specs.Places.{kind_of, operand_of, Known}
use Rattle.description.proofs.Standing.{body_inside}
use Rattle.description.proofs.places.Nodes.operand_of.Goals as goal

-- a constant's five bytes begin at byte j of node's body
module _ (d starts : List ℕ) (node j : ℕ) (p : Known d starts node) (h : j + 5 ≤ (row_of (kind_of d node)).bytes) where
  inside : get_or starts node 0 + 1 + j + 4 < length d
  inside = omega (arith, p.begins, body_inside d starts node p)

  within : length d ≤ most_bytes → get_or starts node 0 + 1 + j + 4 < 1024
  unfolding most_bytes
  within short = omega (arith, inside)

  abbrev place : ℕ
  place = 8 * (get_or starts node 0 + 1 + j + 1)

  abbrev value : ℤ
  value = twos_complement 32 (number d place 32)

  number_is : lowest_signed d place 32 ≡ Ok value
  unfolding total
  number_is = lowest-number d place 32 value (omega arith) (omega (arith, inside))

  constant-is : bind_named (operand_of d node j) ≡ None → constant value ≡ operand_of d node j
  unfolding operand_of operand
  constant-is e = rw p.begins (grind (arith, e))

pub overflow_mul-i : goal.overflow_mul-i
overflow_mul-i c = omega (arith, within _ _ _ _ (c.args.self.now.known _ c.requires.node) c.requires.inside c.args.self.now.short)

pub unwrap-requires : goal.unwrap-requires
unwrap-requires c =
    rw (c.signed.ensures, number_is _ _ _ _ (c.args.self.now.known _ c.requires.node) c.requires.inside) refl

pub returns : goal.returns
returns c =
    let z = c.unwrap.result in
    let p = c.args.self.now.known _ c.requires.node in
    let is : z ≡ value _ _ _ _ p c.requires.inside = cc (c.unwrap.ensures, c.signed.ensures, number_is _ _ _ _ p c.requires.inside) in
    ap constant (to_z-of_z (sfits_of {w = w64} c.unwrap.type_inv) ∙ is) ∙ constant-is _ _ _ _ p c.requires.inside (sym c.bind_of.ensures ∙ c.in_default.is)
