-- How many binds a subtree needs around it, and how many stand around a node of it.
use Rattle.std.specs.Prelude.{ℕ, suc, ◌-◌, max}
use Rattle.description.specs.Nodes.{Operand, constant, bound}
use Rattle.description.specs.Trees.{Tree, unit, bottom, bits, signed, then, bind, either, both, where', sequence, compute, absorb, scan}

-- How many enclosing binds an operand needs: the k-th, counted outward from 0, is there with k + 1 of them.
unfoldable pub needs_of : Operand → ℕ
needs_of (constant z) = 0
needs_of (bound k) = suc k

-- How many binds a subtree needs around it. "Only the second child of a bind lies inside that binding."
unfoldable pub needs : Tree → ℕ
needs (unit n) = 0
needs (bottom n) = 0
needs (bits n w) = 0
needs (signed n w) = 0
needs (then n a b) = max (needs a) (needs b)
needs (bind n a b) = max (needs a) (needs b - 1)
needs (either n a b) = max (needs a) (needs b)
needs (both n a b) = max (needs a) (needs b)
needs (where' n a r x) = max (needs a) (needs_of x)
needs (sequence n e s t x) = max (max (needs e) (needs s)) (max (needs t) (needs_of x))
needs (compute n w f x y) = max (needs_of x) (needs_of y)
needs (absorb n a) = needs a
needs (scan n a) = needs a

-- The most binds around one node of a subtree. No refusal asks for it: a reader has as many numbers lent at once.
unfoldable pub binds : Tree → ℕ
binds (unit n) = 0
binds (bottom n) = 0
binds (bits n w) = 0
binds (signed n w) = 0
binds (then n a b) = max (binds a) (binds b)
binds (bind n a b) = max (binds a) (suc (binds b))
binds (either n a b) = max (binds a) (binds b)
binds (both n a b) = max (binds a) (binds b)
binds (where' n a r x) = binds a
binds (sequence n e s t x) = max (binds e) (max (binds s) (binds t))
binds (compute n w f x y) = 0
binds (absorb n a) = binds a
binds (scan n a) = binds a
