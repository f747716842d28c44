-- A body cut out of its description: its bytes, its operands and what is listed of it are those of the description from the body's place on.
use Prim.Native.Nat.{ℕ, ◌+◌, ◌≤◌, ◌<◌}
use mathlib.Core.List.{List}
use mathlib.Core.Path.{◌≡◌, refl, ap, ◌∙◌}
use native.Mathlib.Omega.{arith}
use lib.ListN.{take, drop}
use Rattle.std.proofs.lemmas.List.{get_or-take, get_or-drop}
use Rattle.description.specs.Bodies.{byte_of}
use Rattle.description.specs.Kinds.{byte, is_width, is_signed_width, is_operand, unit_row, kinds, row_of}
use Rattle.description.specs.declared.kinds.Kind.{Kind}
use Rattle.description.specs.declared.kinds.Kind.TheVariants as kind

module _ (d : List ℕ) (i n : ℕ) where
  -- the n bytes from byte i on
  abbrev pub cut : List ℕ
  cut = take n (drop i d)

  byte_cut : (j p : ℕ) → i + j ≡ p → j < n → byte cut j ≡ byte d p
  unfolding byte
  byte_cut j p e h = rw (← e) (get_or-take n (drop i d) j 0 h ∙ get_or-drop i d j 0)

  pub operand_cut : (j p : ℕ) → i + j ≡ p → j + 5 ≤ n → is_operand cut j ≡ is_operand d p
  unfolding is_operand
  operand_cut j p e h =
      rw (byte_cut j p (omega arith) (omega arith), byte_cut (j + 1) (p + 1) (omega arith) (omega arith), byte_cut (j + 2) (p + 2) (omega arith) (omega arith), byte_cut (j + 3) (p + 3) (omega arith) (omega arith))

  pub listed_cut : (k : Kind) → (row_of (byte_of k)).bytes ≤ n → (row_of (byte_of k)).listed cut 0 ≡ (row_of (byte_of k)).listed d i
  unfolding row_of kinds unit_row
  listed_cut kind.Unit h = refl
  listed_cut kind.Bottom h = refl
  listed_cut kind.Bits h = ap is_width (byte_cut 0 i (omega arith) h)
  listed_cut kind.Signed h = ap is_signed_width (byte_cut 0 i (omega arith) h)
  listed_cut kind.Then h = refl
  listed_cut kind.Bind h = refl
  listed_cut kind.Either h = refl
  listed_cut kind.Both h = refl
  listed_cut kind.Where h = rw (byte_cut 1 (i + 1) refl (omega arith), operand_cut 2 (i + 2) refl (omega arith))
  listed_cut kind.Sequence h = operand_cut 3 (i + 3) refl h
  listed_cut kind.Compute h =
      rw (byte_cut 0 i (omega arith) (omega arith), byte_cut 1 (i + 1) refl (omega arith), operand_cut 2 (i + 2) refl (omega arith), operand_cut 7 (i + 7) refl (omega arith))
  listed_cut kind.Absorb h = refl
  listed_cut kind.Scan h = refl
