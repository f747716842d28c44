-- Laws of two's complement and of the words that hold whole numbers, for every width.
use mathlib.Core.Path.{◌≡◌, refl, sym, ap, subst, ◌∙◌}
use Prim.Native.Nat.{ℕ, zero, suc, ◌+◌, ◌-◌, ◌*◌, ◌/◌, ◌%◌, ◌^◌, ◌≤◌, ◌<◌}
use native.Mathlib.Nat.{mod-lt, mod-eq_of_lt, lt_of_lt_of_le, sub-zero, add-zero, add-mul, suc-mul}
use native.Mathlib.Decide.{dec_lt}
use native.Mathlib.Omega.{arith}
use lib.Arith.{digits_mod}
use lib.Pow.{pow_pos, pow_mono, pow-add, mod-mod-pow, mod-pow-add}
use lib.IntN.{ℤ, pos, negsuc, sub_ℕ, ◌+ℤ◌, ◌-ℤ◌, -ℤ-+ℤ_cancel}
use lib.Signed.{mag}
use borrow.Author.Tests.{lt-ltb, le-ltb}
use Rattle.bits.specs.Whole.{twos_complement, modulo, word}

-- below half of 2 ^ w a number is itself
pub twos_low : (w n : ℕ) → 2 * n < 2 ^ w → twos_complement w n ≡ pos n
unfolding twos_complement
twos_low w n h = rw (lt-ltb (2 * n) (2 ^ w) h)

-- from half of 2 ^ w on it is 2 ^ w less
pub twos_high : (w n : ℕ) → 2 ^ w ≤ 2 * n → twos_complement w n ≡ sub_ℕ n (2 ^ w)
unfolding twos_complement
twos_high w n h = rw (le-ltb (2 * n) (2 ^ w) h)

pub sub_below : (n m : ℕ) → n < m → sub_ℕ n m ≡ negsuc (m - suc n)
sub_below n m h = rw (lt-ltb n m h)

-- the difference of two naturals, as the integers have it
pub difference : (n m : ℕ) → pos n -ℤ pos m ≡ sub_ℕ n m
difference n zero = rw (le-ltb n zero (omega arith), sub-zero, add-zero)
difference n (suc m) = refl

-- a number of w + 1 bits is from -2 ^ w to 2 ^ w - 1
pub twos_range : (w n : ℕ) → n < 2 ^ suc w → mag (twos_complement (suc w) n) < 2 ^ w
twos_range w n h = go (dec_lt (2 * n) (2 ^ suc w))
  where
    go : Dec (2 * n < 2 ^ suc w) → mag (twos_complement (suc w) n) < 2 ^ w
    go (yes l) = rw (twos_low (suc w) n l) (omega arith)
    go (no g) = rw (twos_high (suc w) n (omega arith), sub_below n (2 ^ suc w) h) (omega arith)

-- a remainder by 2 ^ w is from 0 to 2 ^ w - 1
pub modulo-below : (w : ℕ) (z : ℤ) → modulo w z < 2 ^ w
unfolding modulo
modulo-below w (pos n) = mod-lt n (pow_pos w)
modulo-below w (negsuc n) = omega (arith, pow_pos w)

pub word_below : (z : ℤ) → word z < 2 ^ 32
unfolding word
word_below = modulo-below 32

-- a number from -2 ^ w to 2 ^ w - 1 is read back from its low w + 1 bits
pub twos_modulo : (w : ℕ) (z : ℤ) → mag z < 2 ^ w → twos_complement (suc w) (modulo (suc w) z) ≡ z
unfolding modulo
twos_modulo w (pos n) h =
    rw (mod-eq_of_lt {n = n} {m = 2 ^ suc w} (omega arith)) (twos_low (suc w) n (omega arith))
twos_modulo w (negsuc n) h =
    let m = 2 ^ suc w - suc n in
    rw (mod-eq_of_lt {n = n} {m = 2 ^ suc w} (omega arith))
    (twos_high (suc w) m (omega arith) ∙ sub_below m (2 ^ suc w) (omega arith) ∙ ap negsuc (omega arith))

-- and w bits are the low bits of the number that they are
pub modulo_twos : (w n : ℕ) → n < 2 ^ w → modulo w (twos_complement w n) ≡ n
unfolding modulo
modulo_twos w n h = go (dec_lt (2 * n) (2 ^ w))
  where
    go : Dec (2 * n < 2 ^ w) → modulo w (twos_complement w n) ≡ n
    go (yes l) = rw (twos_low w n l) (mod-eq_of_lt h)
    go (no g) =
        rw (twos_high w n (omega arith), sub_below n (2 ^ w) h, mod-eq_of_lt {n = 2 ^ w - suc n} {m = 2 ^ w} (omega arith)) (omega arith)

-- the low word of a signed number of at most 32 bits, read back as two's complement, is the number
pub signed_word : (w n : ℕ) → w ≤ 32 → n < 2 ^ w → twos_complement 32 (word (twos_complement w n)) ≡ twos_complement w n
unfolding word
signed_word w n h l = twos_modulo 31 (twos_complement w n) (small w h l)
  where
    small : (w : ℕ) → w ≤ 32 → n < 2 ^ w → mag (twos_complement w n) < 2 ^ 31
    small zero h l = rw (twos_low 0 n (omega arith)) (omega arith)
    small (suc v) h l = lt_of_lt_of_le (twos_range v n l) (pow_mono {j = 31} (omega arith))

-- the word of a difference of two naturals, and of a sum and a difference of whole numbers: past 2 ^ 32 they begin at 0 again
word_subℕ : (a b : ℕ) → (word (sub_ℕ a b) + b) % 2 ^ 32 ≡ a % 2 ^ 32
unfolding word modulo
word_subℕ a b = go (dec_lt a b)
  where
    go : Dec (a < b) → (word (sub_ℕ a b) + b) % 2 ^ 32 ≡ a % 2 ^ 32
    go (yes l) = rw (sub_below a b l) (omega arith)
    go (no g) = rw (le-ltb a b (omega arith)) (omega arith)

pub word_sum : (a b : ℤ) → word (a +ℤ b) ≡ (word a + word b) % 2 ^ 32
unfolding word modulo
word_sum (pos a) (pos b) = omega arith
word_sum (pos a) (negsuc b) = omega (arith, word_subℕ a (suc b), modulo-below 32 (sub_ℕ a (suc b)))
word_sum (negsuc a) (pos b) = omega (arith, word_subℕ b (suc a), modulo-below 32 (sub_ℕ b (suc a)))
word_sum (negsuc a) (negsuc b) = omega arith

pub word-difference : (a b : ℤ) → (word (a -ℤ b) + word b) % 2 ^ 32 ≡ word a
word-difference a b =
    sym (word_sum (a -ℤ b) b) ∙ ap word (-ℤ-+ℤ_cancel a b)

-- what is left over q * m + s, of c times m, is a multiple of m and m - 1 - s
left_over : (c q m s : ℕ) → q < c → s < m → (c * m - suc (q * m + s)) % m ≡ m - suc s
left_over c q m s h l =
    let parts : c ≡ (c - suc q) + suc q = omega arith in
    let product : c * m ≡ (c - suc q) * m + (q * m + m) =
    ap (λ (k : ℕ). k * m) parts ∙ add-mul (c - suc q) (suc q) m ∙ ap (λ (k : ℕ). (c - suc q) * m + k) (suc-mul q m) in
    let rest : c * m - suc (q * m + s) ≡ (c - suc q) * m + (m - suc s) = omega arith in
    ap (λ (k : ℕ). k % m) rest ∙ digits_mod (c - suc q) (omega arith)

-- the low w bits of a number's word are its own
low_bits : (j w : ℕ) (z : ℤ) → modulo (j + w) z % 2 ^ w ≡ modulo w z
unfolding modulo
low_bits j w (pos n) = mod-mod-pow n j w
low_bits j w (negsuc n) =
    rw (mod-pow-add n j w, pow-add 2 j w)
    (left_over (2 ^ j) (n / 2 ^ w % 2 ^ j) (2 ^ w) (n % 2 ^ w) (mod-lt (n / 2 ^ w) (pow_pos j)) (mod-lt n (pow_pos w)))

pub word-modulo : (w : ℕ) (z : ℤ) → w ≤ 32 → word z % 2 ^ w ≡ modulo w z
unfolding word
word-modulo w z h =
    let all : 32 - w + w ≡ 32 = omega arith in
    subst (λ (k : ℕ). modulo k z % 2 ^ w ≡ modulo w z) all (low_bits (32 - w) w z)
