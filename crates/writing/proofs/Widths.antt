-- Laws of the bits of a number in a width, and of the bytes that bits make, for every width.
use Prim.Native.Nat.{ℕ, zero, suc, ◌+◌, ◌*◌, ◌/◌, ◌%◌, ◌^◌}
use mathlib.Core.List.{List, [], ◌∷◌, ◌++◌, append_assoc, append-nil}
use mathlib.Core.Path.{◌≡◌, refl, sym, ap, ap₂, ◌∙◌}
use native.Mathlib.Nat.{zero-add, add-zero, suc-add, add_assoc, add-mul, mul_assoc}
use native.Mathlib.Omega.{arith}
use lib.ListN.{length, replicate}
use lib.Pow.{pow-add, shr-shr, field, mod-mod-pow, mod-pow-add}
use lib.Seq.{drop_at}
use Rattle.writing.specs.Bits.{in_width, value, packed}

pub width_length : (w n : ℕ) → length (in_width w n) ≡ w
unfolding in_width
width_length zero n = refl
width_length (suc w) n = ap suc (width_length w n)

-- The low w bits of a number are those of its remainder by any power of two that is no less.
pub width_low : (w j n : ℕ) → in_width w (n % 2 ^ (w + j)) ≡ in_width w n
unfolding in_width
width_low zero j n = refl
width_low (suc w) j n =
    let more : suc w + j ≡ suc j + w = omega arith in
    let one : suc j ≡ j + 1 = omega arith in
    let same : suc w + j ≡ w + suc j = omega arith in
    ap₂ ◌∷◌
    (ap (λ (k : ℕ). n % 2 ^ k / 2 ^ w % 2) more
    ∙ ap (λ (m : ℕ). m % 2) (field n (suc j) w)
    ∙ ap (λ (k : ℕ). n / 2 ^ w % 2 ^ k % 2) one
    ∙ mod-mod-pow (n / 2 ^ w) j 1)
    (ap (λ (k : ℕ). in_width w (n % 2 ^ k)) same ∙ width_low w (suc j) n)

pub width_same : (w n : ℕ) → in_width w (n % 2 ^ w) ≡ in_width w n
width_same w n = ap (λ (k : ℕ). in_width w (n % 2 ^ k)) (sym (add-zero w)) ∙ width_low w 0 n

-- Of w + k bits the first w are the higher ones.
pub width_split : (w k n : ℕ) → in_width (w + k) n ≡ in_width w (n / 2 ^ k) ++ in_width k n
unfolding in_width
width_split zero k n = ap (λ (m : ℕ). in_width m n) (zero-add k)
width_split (suc w) k n =
    let turned : k + w ≡ w + k = omega arith in
    ap (λ (m : ℕ). in_width m n) (suc-add w k)
    ∙ ap₂ ◌∷◌ (sym (ap (λ (m : ℕ). m % 2) (shr-shr n k w) ∙ ap (λ (m : ℕ). n / 2 ^ m % 2) turned)) (width_split w k n)

-- w bits in front are the number's remainder, moved past the z bits behind them.
pub value_width : (w z n : ℕ) (rest : List ℕ) → value (w + z) (in_width w n ++ rest) ≡ n % 2 ^ w * 2 ^ z + value z rest
unfolding in_width value
value_width zero z n rest =
    let none : n % 2 ^ 0 ≡ 0 = omega arith in
    ap (λ (m : ℕ). value m rest) (zero-add z) ∙ sym (ap (λ (m : ℕ). m * 2 ^ z + value z rest) none ∙ omega arith)
value_width (suc w) z n rest =
    let b = n / 2 ^ w % 2 in
    let m = n % 2 ^ w in
    let one : suc w ≡ 1 + w = omega arith in
    let all : n % 2 ^ suc w ≡ b * 2 ^ w + m = ap (λ (k : ℕ). n % 2 ^ k) one ∙ mod-pow-add n 1 w in
    let moved : (b * 2 ^ w + m) * 2 ^ z ≡ b * 2 ^ (w + z) + m * 2 ^ z =
    add-mul (b * 2 ^ w) m (2 ^ z) ∙ ap (λ (k : ℕ). k + m * 2 ^ z) (mul_assoc b (2 ^ w) (2 ^ z) ∙ ap (λ (k : ℕ). b * k) (sym (pow-add 2 w z))) in
    ap (λ (k : ℕ). value k (b ∷ (in_width w n ++ rest))) (suc-add w z)
    ∙ ap (λ (k : ℕ). b * 2 ^ (w + z) + k) (value_width w z n rest)
    ∙ sym (ap (λ (k : ℕ). k * 2 ^ z + value z rest) all ∙ ap (λ (k : ℕ). k + value z rest) moved ∙ add_assoc (b * 2 ^ (w + z)) (m * 2 ^ z) (value z rest))

pub width_value : (w n : ℕ) → value w (in_width w n) ≡ n % 2 ^ w
unfolding value
width_value w n =
    ap₂ value (sym (add-zero w)) (sym (append-nil (in_width w n))) ∙ value_width w 0 n [] ∙ omega arith

pub value_none : (w : ℕ) → value w [] ≡ 0
unfolding value
value_none zero = refl
value_none (suc w) = refl

pub packed_none : (n : ℕ) → packed n [] ≡ replicate n 0
unfolding packed
packed_none zero = refl
packed_none (suc n) = ap₂ ◌∷◌ (value_none 8) (packed_none n)

-- Eight bits, and what follows them.
pub packed_byte : (n r acc : ℕ) (more : List ℕ) → packed (suc n) (in_width (8 + r) acc ++ more) ≡ acc / 2 ^ r % 256 ∷ packed n (in_width r acc ++ more)
unfolding packed value
packed_byte n r acc more =
    let eight = in_width 8 (acc / 2 ^ r) in
    let rest = in_width r acc ++ more in
    let apart : in_width (8 + r) acc ++ more ≡ eight ++ rest = ap (λ (l : List ℕ). l ++ more) (width_split 8 r acc) ∙ append_assoc eight (in_width r acc) more in
    ap (packed (suc n)) apart
    ∙ ap₂ ◌∷◌ (value_width 8 0 (acc / 2 ^ r) rest ∙ omega arith) (ap (packed n) (drop_at eight rest 8 (width_length 8 (acc / 2 ^ r))))
