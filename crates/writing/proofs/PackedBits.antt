-- The bits of a buffer that a row of bits is packed into are the bits of the row.
use Prim.Native.Nat.{ℕ, zero, suc, ◌+◌, ◌-◌, ◌*◌, ◌/◌, ◌%◌, ◌^◌, ◌<◌}
use mathlib.Core.List.{List, [], ◌∷◌}
use mathlib.Core.Path.{◌≡◌, refl, sym, ap, ◌∙◌}
use native.Mathlib.Nat.{zero-div, mod-eq_of_lt}
use native.Mathlib.Omega.{arith}
use lib.ListN.{get_or, drop}
use lib.Pow.{pow_pos, high, low, field, mod-mod-pow}
use lib.Seq.{drop-drop, get_or-drop}
use Rattle.bits.specs.Bits.{bit}
use Rattle.writing.specs.Bits.{value, packed}
use Rattle.writing.proofs.Rows.{AreBits}

-- one bit more in front
below : (b v w : ℕ) → b < 2 → v < 2 ^ w → b * 2 ^ w + v < 2 ^ suc w
below zero v w h l = omega arith
below (suc zero) v w h l = omega arith
below (suc (suc b)) v w h l = absurd (omega arith)

-- a number of w bits is below 2 ^ w
value-below : (w : ℕ) (bits : List ℕ) → AreBits bits → value w bits < 2 ^ w
unfolding value
value-below zero bits f = omega arith
value-below (suc w) [] f = pow_pos (suc w)
value-below (suc w) (b ∷ bits) f = below b (value w bits) w f.0 (value-below w bits f.1)

-- what stands in front does not touch the bits after it
after : (b v w i j : ℕ) → i + (1 + j) ≡ w → v < 2 ^ w → (b * 2 ^ w + v) / 2 ^ j % 2 ≡ v / 2 ^ j % 2
after b v w i j e h =
    let n = b * 2 ^ w + v in
    let same : n % 2 ^ (1 + j) ≡ v % 2 ^ (1 + j) =
    sym (mod-mod-pow n i (1 + j)) ∙ ap (λ (k : ℕ). k % 2 ^ (1 + j)) (ap (λ (k : ℕ). n % 2 ^ k) e ∙ low b w h) in
    sym (field n 1 j) ∙ ap (λ (k : ℕ). k / 2 ^ j) same ∙ field v 1 j

-- its bit i is bit i of the row
value-bit : (w i : ℕ) (bits : List ℕ) → AreBits bits → i < w → value w bits / 2 ^ (w - suc i) % 2 ≡ get_or bits i 0
unfolding value
value-bit zero i bits f h = absurd (omega arith)
value-bit (suc w) i [] f h = ap (λ (k : ℕ). k % 2) (zero-div (2 ^ (suc w - suc i)))
value-bit (suc w) zero (b ∷ bits) f h =
    let first : suc w - 1 ≡ w = omega arith in
    let bit-itself : b % 2 ≡ b = mod-eq_of_lt f.0 in
    rw (first, high b w (value-below w bits f.1)) bit-itself
value-bit (suc w) (suc i) (b ∷ bits) f h =
    let later : suc w - suc (suc i) ≡ w - suc i = omega arith in
    rw later (after b (value w bits) w i (w - suc i) (omega arith) (value-below w bits f.1) ∙ value-bit w i bits f.1 (omega arith))

-- byte j of a buffer is made of the eight bits from 8 * j on
packed-at : (n j : ℕ) (bits : List ℕ) → j < n → get_or (packed n bits) j 0 ≡ value 8 (drop (8 * j) bits)
unfolding packed
packed-at zero j bits h = absurd (omega arith)
packed-at (suc n) zero bits h = refl
packed-at (suc n) (suc j) bits h =
    let next : 8 + 8 * j ≡ 8 * suc j = omega arith in
    packed-at n j (drop 8 bits) (omega arith) ∙ ap (value 8) (drop-drop (8 * j) 8 bits ∙ ap (λ (k : ℕ). drop k bits) next)

drop_bits : (n : ℕ) (bits : List ℕ) → AreBits bits → AreBits (drop n bits)
drop_bits zero bits f = f
drop_bits (suc n) [] f = tt
drop_bits (suc n) (b ∷ bits) f = drop_bits n bits f.1

pub packed-bit : (n k : ℕ) (bits : List ℕ) → AreBits bits → k < 8 * n → bit (packed n bits) k ≡ get_or bits k 0
unfolding bit
packed-bit n k bits f h =
    let place : 7 - k % 8 ≡ 8 - suc (k % 8) = omega arith in
    let whole : 8 * (k / 8) + k % 8 ≡ k = omega arith in
    rw (packed-at n (k / 8) bits (omega arith), place)
    (value-bit 8 (k % 8) (drop (8 * (k / 8)) bits) (drop_bits (8 * (k / 8)) bits f) (omega arith)
    ∙ get_or-drop (8 * (k / 8)) bits (k % 8) 0 ∙ ap (λ (m : ℕ). get_or bits m 0) whole)
