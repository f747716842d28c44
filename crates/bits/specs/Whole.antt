-- Whole numbers and the words that hold them.
use Rattle.std.specs.Prelude.{ℕ, suc, ◌-◌, ◌*◌, ◌%◌, ◌^◌, Bool, false, cond, eqb, ltb, ℤ, pos, negsuc}
use Rattle.std.proofs.Math.IntN.{sub_ℕ}

-- Two's complement of width w: n itself below half of 2 ^ w, and n less 2 ^ w from there on.
unfoldable pub twos_complement : ℕ → ℕ → ℤ
twos_complement w n = cond (ltb (2 * n) (2 ^ w)) (pos n) (sub_ℕ n (2 ^ w))

-- "modulo 2 to the power w, so from 0 to 2^w - 1". The remainder of -(n + 1) is 2 ^ w - 1 less that of n.
unfoldable pub modulo : ℕ → ℤ → ℕ
modulo w (pos n) = n % 2 ^ w
modulo w (negsuc n) = 2 ^ w - suc (n % 2 ^ w)

-- "number (low 32 bits)": the word that holds a whole number.
unfoldable pub word : ℤ → ℕ
word z = modulo 32 z

-- Whether two whole numbers are the same.
unfoldable pub same_z : ℤ → ℤ → Bool
same_z (pos a) (pos b) = eqb a b
same_z (pos a) (negsuc b) = false
same_z (negsuc a) (pos b) = false
same_z (negsuc a) (negsuc b) = eqb a b
