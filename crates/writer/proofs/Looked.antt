-- The numbers that are looked up of a field, and the field that has them.
use Rattle.std.proofs.Common.{◌≡◌, ℕ, zero, suc, ◌-◌, ◌^◌, ◌≤◌, refl, arith, pow_pos}
use Rattle.writing.specs.declared.Field.TheVariants.{Nothing, Bits, Signed}
use Rattle.writer.specs.Inner.Stored.{half_of, field_with, IsLooked}

pub looked-nothing : IsLooked Nothing 0 0 0
unfolding half_of
looked-nothing = record { narrow = omega arith; width = refl; most = refl; half = refl }

pub with_none : (w h : ℕ) → w ≡ 0 → field_with w h ≡ Nothing
with_none zero h e = refl
with_none (suc w) h e = absurd (omega arith)

pub with_bits : (w : ℕ) → 1 ≤ w → field_with w 0 ≡ Bits w
with_bits zero h = absurd (omega arith)
with_bits (suc w) h = refl

pub looked-bits : (w : ℕ) → 1 ≤ w → w ≤ 32 → IsLooked (field_with w 0) w (2 ^ w - 1) 0
unfolding half_of
looked-bits w some narrow = rw (with_bits w some) (record { narrow = narrow; width = refl; most = refl; half = refl })

pub with_signed : (w h : ℕ) → 1 ≤ w → 1 ≤ h → field_with w h ≡ Signed w
with_signed zero h l m = absurd (omega arith)
with_signed (suc w) zero l m = absurd (omega arith)
with_signed (suc w) (suc h) l m = refl

pub signed-is : (w : ℕ) → 1 ≤ w → field_with w (2 ^ (w - 1)) ≡ Signed w
signed-is w some = with_signed w (2 ^ (w - 1)) some (pow_pos (w - 1))

pub looked-signed : (w : ℕ) → 1 ≤ w → w ≤ 32 → IsLooked (field_with w (2 ^ (w - 1))) w (2 ^ w - 1) (2 ^ (w - 1))
unfolding half_of
looked-signed w some narrow = rw (signed-is w some) (record { narrow = narrow; width = refl; most = refl; half = refl })
