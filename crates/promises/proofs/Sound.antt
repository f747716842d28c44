-- Trees of descriptions that pass the check: widths are listed, and a bind's first child and a where's child are number nodes.
use Prim.Native.Nat.{◌≤◌}
use mathlib.Core.Bool.{Bool, true, false}
use mathlib.Core.Path.{◌≡◌}
use Rattle.description.specs.Trees.{Tree, unit, bottom, bits, signed, then, bind, either, both, where', sequence, compute, absorb, scan}

-- "Number nodes are kinds 02, 03, 08 and 0A"
abbrev pub is_number_tree : Tree → Bool
is_number_tree (unit n) = false
is_number_tree (bottom n) = false
is_number_tree (bits n w) = true
is_number_tree (signed n w) = true
is_number_tree (then n a b) = false
is_number_tree (bind n a b) = false
is_number_tree (either n a b) = false
is_number_tree (both n a b) = false
is_number_tree (where' n a r x) = true
is_number_tree (sequence n e s t x) = false
is_number_tree (compute n w f x y) = true
is_number_tree (absorb n a) = false
is_number_tree (scan n a) = false

abbrev pub Sound : Tree → Type 0
Sound (unit n) = Unit
Sound (bottom n) = Unit
Sound (bits n w) = (1 ≤ w) × (w ≤ 32)
Sound (signed n w) = (1 ≤ w) × (w ≤ 32)
Sound (then n a b) = Sound a × Sound b
Sound (bind n a b) = (is_number_tree a ≡ true) × Sound a × Sound b
Sound (either n a b) = Sound a × Sound b
Sound (both n a b) = Sound a × Sound b
Sound (where' n a r x) = (is_number_tree a ≡ true) × Sound a
Sound (sequence n e s t x) = Sound e × Sound s × Sound t
Sound (compute n w f x y) = w ≤ 32
Sound (absorb n a) = Sound a
Sound (scan n a) = Sound a
