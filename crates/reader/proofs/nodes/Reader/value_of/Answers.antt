-- The k-th number lent is there, since the operand needs k + 1 of them.
use Rattle.std.proofs.Common.{◌≡◌, ℕ, ◌+◌, ◌<◌, ◌≤◌, List, length, get_or, drop, ℤ, pos, sym, ap, ◌∙◌, arith, get_or-drop, to_z-of_z, w64, rules}
use Rattle.description.specs.Binds.{needs_of}
use Rattle.description.specs.Nodes.{Operand, constant, bound}
use Rattle.description.specs.Places.{meant, operand_of}
use Rattle.rules.specs.Numbers.{value_of}
use Rattle.reader.proofs.nodes.Reader.value_of.Goals as goal
use Rattle.reader.proofs.nodes.Reader.value_of.Goals.{In-Bound}

-- a bound operand
module _ (lent : List ℤ) (free k : ℕ) (x : Operand) (is : bound k ≡ x) where
  there : needs_of x + free ≤ length lent → free + k < length lent
  unfolding needs_of
  there h = omega (arith, ap needs_of is)

  is-lent : get_or lent (free + k) (pos 0) ≡ value_of (drop free lent) x
  unfolding value_of
  is-lent = sym (get_or-drop free lent k (pos 0)) ∙ ap (value_of (drop free lent)) is

is-constant : (lent : List ℤ) (z : ℤ) (x : Operand) → constant z ≡ x → z ≡ value_of lent x
unfolding value_of
is-constant lent z x is = ap (value_of lent) is

-- the operand that was answered is bound
module _ (c : In-Bound) where
  is : bound c.in-Bound.k ≡ operand_of c.args.self.now.nodes.desc.now c.args.at.node c.args.j
  is = sym (ap meant c.in-Bound.is) ∙ c.operand_of.ensures

  inside : c.args.at.free + c.in-Bound.k < length c.args.lent.now
  inside = there c.args.lent.now _ _ _ is c.requires.free_in_bounds

pub bounds-lent-at : goal.bounds-lent-at
bounds-lent-at c = inside (goal.at.bounds-lent-at c).In-Bound

pub returns-in-Constant : goal.returns-in-Constant
returns-in-Constant c =
    to_z-of_z {w = w64} (search rules) ∙ is-constant _ _ _ (sym (ap meant c.in-Constant.is) ∙ c.operand_of.ensures)

pub returns-in-Bound : goal.returns-in-Bound
returns-in-Bound c =
    let a = c.args in
    to_z-of_z {w = w64} (search rules) ∙ is-lent a.lent.now a.at.free _ _ (is (goal.at.returns-in-Bound c).In-Bound)
