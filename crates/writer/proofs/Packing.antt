-- What putting bits into a buffer keeps.
use Rattle.std.proofs.Common.{◌≡◌, ℕ, zero, suc, ◌+◌, ◌-◌, ◌*◌, ◌/◌, ◌%◌, ◌^◌, ◌<◌, ◌≤◌, List, [], ◌∷◌, ◌++◌, length, take, drop, replicate, sym, refl, ap, ◌∙◌, subst, ap₂, append_assoc, append-nil, add-zero, arith, length-append, length-take, length-drop, drop_of_length-le, pow_pos, pow-add, shr-shr, zero-add, suc-add}
use Rattle.std.proofs.Math.Nat.{mul-mod_left}
use native.Mathlib.Nat.{sub-zero, pow-suc, zero-div, zero-mul, mul_assoc, add-mul}
use borrow.Rule.Slice.PartMut.{put_mid, same_len_mid}
use lib.Bits.{bit_or, or_shifted}
use lib.Seq.{drop-nil}
use lib.Pow.{mod-pow-add, split, shl_lt, shl_exact, shl-shr, high, low}
use Rattle.std.proofs.lemmas.Slice.{take-put_mid}
use Rattle.std.specs.Int.{byte_at, bytes_high_first}
use Rattle.writing.specs.Bits.{in_width, value, packed}
use Rattle.writing.proofs.Widths.{width_length, width_same, width_split, packed_none, packed_byte}
use Rattle.writer.specs.Inner.Packing.{Stands}

-- A number that is moved up keeps what is not moved out.
moved-low : (a j w : ℕ) → (a * 2 ^ w) % 2 ^ (j + w) ≡ a % 2 ^ j * 2 ^ w
moved-low a j w =
    let none : (a * 2 ^ w) % 2 ^ w ≡ 0 = mul-mod_left a (2 ^ w) in
    mod-pow-add (a * 2 ^ w) j w
    ∙ ap (λ (m : ℕ). (a * 2 ^ w / 2 ^ w % 2 ^ j) * 2 ^ w + m) none
    ∙ add-zero _
    ∙ ap (λ (m : ℕ). m % 2 ^ j * 2 ^ w) (shl-shr a w)

-- The bits of a number behind those that are held.
held-more : (a n held w : ℕ) → n < 2 ^ w → in_width (held + w) (a * 2 ^ w + n) ≡ in_width held a ++ in_width w n
held-more a n held w small =
    width_split held w (a * 2 ^ w + n)
    ∙ ap₂ ◌++◌ (ap (in_width held) (high a w small)) (sym (width_same w (a * 2 ^ w + n)) ∙ ap (in_width w) (low a w small))

-- What stands above so many places that are 0 is moved up by them.
moved-up : (acc free : ℕ) → acc % 2 ^ free ≡ 0 → acc ≡ acc / 2 ^ free * 2 ^ free
moved-up acc free clear = sym (split acc free) ∙ ap (λ (m : ℕ). acc / 2 ^ free * 2 ^ free + m) clear ∙ add-zero (acc / 2 ^ free * 2 ^ free)

-- Where those that are held stand above so many places that are 0, and the number takes w of these.
pub joined : (acc n free w : ℕ) → acc % 2 ^ free ≡ 0 → n < 2 ^ w → w ≤ free → free ≤ 64
    → bit_or acc ((n * 2 ^ (free - w)) % 2 ^ 64) ≡ (acc / 2 ^ free * 2 ^ w + n) * 2 ^ (free - w)
joined acc n free w clear small fits most =
    let a = acc / 2 ^ free in
    let f = free - w in
    let all : w + f ≡ free = omega arith in
    let below : n * 2 ^ f < 2 ^ free = subst (λ (k : ℕ). n * 2 ^ f < 2 ^ k) all (shl_lt w f small) in
    let apart : 2 ^ free ≡ 2 ^ w * 2 ^ f = ap (λ (k : ℕ). 2 ^ k) (sym all) ∙ pow-add 2 w f in
    ap (bit_or acc) (shl_exact w f 64 small (omega (arith, all, most)))
    ∙ ap (λ (m : ℕ). bit_or m (n * 2 ^ f)) (moved-up acc free clear)
    ∙ or_shifted a free (n * 2 ^ f) below
    ∙ ap (λ (m : ℕ). a * m + n * 2 ^ f) apart
    ∙ ap (λ (m : ℕ). m + n * 2 ^ f) (sym (mul_assoc a (2 ^ w) (2 ^ f)))
    ∙ sym (add-mul (a * 2 ^ w) n (2 ^ f))

-- The highest 32 bits, and what is left of the others once these are moved out.
pub top : (b f : ℕ) → f ≤ 32 → b * 2 ^ f / 2 ^ 32 ≡ b / 2 ^ (32 - f)
top b f h =
    let all : f + (32 - f) ≡ 32 = omega arith in
    ap (λ (k : ℕ). b * 2 ^ f / 2 ^ k) (sym all) ∙ sym (shr-shr (b * 2 ^ f) f (32 - f)) ∙ ap (λ (m : ℕ). m / 2 ^ (32 - f)) (shl-shr b f)

pub moved-out : (b f : ℕ) → f ≤ 32 → (b * 2 ^ f * 2 ^ 32) % 2 ^ 64 ≡ b % 2 ^ (32 - f) * 2 ^ (f + 32)
moved-out b f h =
    let all : 64 ≡ 32 - f + (f + 32) = omega arith in
    ap (λ (m : ℕ). m % 2 ^ 64) (mul_assoc b (2 ^ f) (2 ^ 32) ∙ ap (λ (m : ℕ). b * m) (sym (pow-add 2 f 32)))
    ∙ ap (λ (k : ℕ). (b * 2 ^ (f + 32)) % 2 ^ k) all
    ∙ moved-low b (32 - f) (f + 32)

-- Byte k of a number, by a shift.
pub byte-shifted : (k n : ℕ) → n / 2 ^ (8 * k) % 256 ≡ byte_at k n
byte-shifted zero n = omega arith
byte-shifted (suc k) n = ap (λ (m : ℕ). n / m % 256) (eights (suc k))
  where
    eights : (k : ℕ) → 2 ^ (8 * k) ≡ 256 ^ k
    eights zero = refl
    eights (suc k) =
        let more : 8 * suc k ≡ 8 * k + 8 = omega arith in
        ap (λ (j : ℕ). 2 ^ j) more ∙ pow-add 2 (8 * k) 8 ∙ ap (λ (m : ℕ). m * 256) (eights k) ∙ sym (pow-suc 256 k)

-- The first eight bits at a time are the bytes of the number that is held.
packed-bytes : (k n r acc : ℕ) (more : List ℕ) → packed (k + n) (in_width (8 * k + r) acc ++ more) ≡ bytes_high_first k (acc / 2 ^ r) ++ packed n (in_width r acc ++ more)
packed-bytes zero n r acc more =
    let none : 8 * 0 + r ≡ r = omega arith in
    ap₂ (λ (m w : ℕ). packed m (in_width w acc ++ more)) (zero-add n) none
packed-bytes (suc k) n r acc more =
    let first : 8 * suc k + r ≡ 8 + (8 * k + r) = omega arith in
    let turned : 8 * k + r ≡ r + 8 * k = omega arith in
    ap₂ (λ (m w : ℕ). packed m (in_width w acc ++ more)) (suc-add k n) first
    ∙ packed_byte (k + n) (8 * k + r) acc more
    ∙ ap₂ ◌∷◌
    (ap (λ (j : ℕ). acc / 2 ^ j % 256) turned ∙ ap (λ (m : ℕ). m % 256) (sym (shr-shr acc r (8 * k))) ∙ byte-shifted k (acc / 2 ^ r))
    (packed-bytes k n r acc more)

bytes-length : (k n : ℕ) → length (bytes_high_first k n) ≡ k
bytes-length zero n = refl
bytes-length (suc k) n = ap suc (bytes-length k n)

-- One byte more of a number, of which k are still to come.
pub bytes-more : (i k n : ℕ) → take (suc i) (bytes_high_first (suc (i + k)) n) ≡ take i (bytes_high_first (suc (i + k)) n) ++ byte_at k n ∷ []
bytes-more zero k n = ap (λ (j : ℕ). byte_at j n ∷ []) (zero-add k)
bytes-more (suc i) k n =
    let less : suc i + k ≡ suc (i + k) = suc-add i k in
    ap₂ ◌∷◌ refl (ap (λ (j : ℕ). take (suc i) (bytes_high_first j n)) less ∙ bytes-more i k n ∙ ap (λ (j : ℕ). take i (bytes_high_first j n) ++ byte_at k n ∷ []) (sym less))

put-length : (at k n : ℕ) (buffer : List ℕ) → at + k ≤ length buffer → length (put_mid at k buffer (bytes_high_first k n)) ≡ length buffer
put-length at k n buffer fits = same_len_mid at k buffer (bytes_high_first k n) (omega (arith, bytes-length k n, length-take {A = ℕ}, length-drop {A = ℕ}))

-- All that stands from one place on is replaced.
put_rest : (from : ℕ) (buffer rest : List ℕ) → from ≤ length buffer → length buffer - from ≡ length rest
    → put_mid from (length buffer - from) buffer rest ≡ take from buffer ++ rest
put_rest from buffer rest h e =
    ap (λ (l : List ℕ). take from buffer ++ (rest ++ l)) (drop_of_length-le (drop from buffer) {i = length buffer - from} (omega (arith, length-drop {A = ℕ})))
    ∙ ap (λ (l : List ℕ). take from buffer ++ l) (append-nil rest)

-- Nothing is put yet.
pub packs_none : (acc : ℕ) (buffer : List ℕ) → Stands [] 0 0 acc buffer
unfolding in_width
packs_none acc buffer =
    record {
      long = refl;
      kept = λ h more. ap (λ (n : ℕ). packed n more) (sym (sub-zero (length buffer)));
    }

module _ (row : List ℕ) (at acc : ℕ) (buffer : List ℕ) where
  -- A number is put behind the bits that are held.
  pub packs_more : (held w n : ℕ) → n < 2 ^ w → Stands row at held acc buffer → Stands (row ++ in_width w n) at (held + w) (acc * 2 ^ w + n) buffer
  packs_more held w n small p =
      record {
        long = length-append row (in_width w n) ∙ omega (arith, p.long, width_length w n);
        kept =
            λ h more.
            ap (packed (length buffer)) (append_assoc row (in_width w n) more)
            ∙ p.kept h (in_width w n ++ more)
            ∙ ap (λ (l : List ℕ). take at buffer ++ packed (length buffer - at) l)
            (sym (append_assoc (in_width held acc) (in_width w n) more) ∙ ap (λ (l : List ℕ). l ++ more) (sym (held-more acc n held w small)));
      }

  -- Of what is not held nothing counts.
  pub packs_low : (held : ℕ) → Stands row at held acc buffer → Stands row at held (acc % 2 ^ held) buffer
  packs_low held p =
      record {
        long = p.long;
        kept = λ h more. p.kept h more ∙ ap (λ (l : List ℕ). take at buffer ++ packed (length buffer - at) (l ++ more)) (sym (width_same held acc));
      }

  -- The first k bytes of the bits that are held are stored.
  pub packs_bytes : (k r : ℕ) → at + k ≤ length buffer → Stands row at (8 * k + r) acc buffer
      → Stands row (at + k) r acc (put_mid at k buffer (bytes_high_first k (acc / 2 ^ r)))
  packs_bytes k r fits p =
      let bytes = bytes_high_first k (acc / 2 ^ r) in
      let many = bytes-length k (acc / 2 ^ r) in
      let after = put_mid at k buffer bytes in
      let n = length buffer - (at + k) in
      let same : length after ≡ length buffer = put-length at k (acc / 2 ^ r) buffer fits in
      let left : length buffer - at ≡ k + n = omega arith in
      record {
        long = omega (arith, p.long);
        kept =
            λ h more.
            ap (λ (m : ℕ). packed m (row ++ more)) same
            ∙ p.kept (omega arith) more
            ∙ ap (λ (l : List ℕ). take at buffer ++ l) (ap (λ (m : ℕ). packed m (in_width (8 * k + r) acc ++ more)) left ∙ packed-bytes k n r acc more)
            ∙ sym (append_assoc (take at buffer) bytes (packed n (in_width r acc ++ more)))
            ∙ ap₂ (λ (l : List ℕ) (m : ℕ). l ++ packed (m - (at + k)) (in_width r acc ++ more))
            (sym (take-put_mid at k buffer bytes (at + k) (omega arith) (omega arith))) (sym same);
      }

  -- There is no room for them.
  pub packs_past : (k r : ℕ) → length buffer < at + k → Stands row at (8 * k + r) acc buffer → Stands row (at + k) r acc buffer
  packs_past k r h p =
      record {
        long = omega (arith, p.long);
        kept = λ fits more. absurd (omega arith);
      }

  -- No bit is held any more, and the bytes from one place on are cleared, which is where those that were stored end.
  packs_all : (rest : List ℕ) (from : ℕ) → at ≤ length buffer → Stands row at 0 acc buffer → from ≡ at → rest ≡ replicate (length rest) 0
      → length rest ≡ length (take (length buffer - from) (drop from buffer)) → put_mid from (length buffer - from) buffer rest ≡ packed (length buffer) row
  unfolding in_width
  packs_all rest from h p end zeros many =
      let left : length rest ≡ length buffer - at = omega (arith, many, end, length-take {A = ℕ}, length-drop {A = ℕ}) in
      let cleared : rest ≡ replicate (length buffer - at) 0 = rw left at zeros in
      ap (λ (k : ℕ). put_mid k (length buffer - k) buffer rest) end
      ∙ put_rest at buffer rest h (sym left)
      ∙ ap (λ (l : List ℕ). take at buffer ++ l) (cleared ∙ sym (packed_none (length buffer - at)))
      ∙ sym (p.kept h [])
      ∙ ap (packed (length buffer)) (append-nil row)

-- Zero bits at the end of a row are those that its bytes have where it has ended.
value_zeros : (w z : ℕ) → value w (in_width z 0) ≡ 0
unfolding value in_width
value_zeros zero z = refl
value_zeros (suc w) zero = refl
value_zeros (suc w) (suc z) =
    let none : 0 / 2 ^ z % 2 ≡ 0 = ap (λ (m : ℕ). m % 2) (zero-div (2 ^ z)) in
    rw (none, zero-mul, zero-add) (value_zeros w z)

value-padded : (w : ℕ) (row : List ℕ) (z : ℕ) → value w (row ++ in_width z 0) ≡ value w row
unfolding value
value-padded zero row z = refl
value-padded (suc w) [] z = value_zeros (suc w) z
value-padded (suc w) (b ∷ row) z = ap (λ (m : ℕ). b * 2 ^ w + m) (value-padded w row z)

drop-padded : (j : ℕ) (row : List ℕ) (z : ℕ) → (y : ℕ) × (drop j (row ++ in_width z 0) ≡ drop j row ++ in_width y 0)
unfolding in_width
drop-padded zero row z = (z, refl)
drop-padded (suc j) [] zero = (0, refl)
drop-padded (suc j) [] (suc z) =
    let rest = drop-padded j [] z in
    (rest.0, rest.1 ∙ ap (λ (l : List ℕ). l ++ in_width rest.0 0) (drop-nil j))
drop-padded (suc j) (b ∷ row) z = drop-padded j row z

packed-padded : (n : ℕ) (row : List ℕ) (z : ℕ) → packed n (row ++ in_width z 0) ≡ packed n row
unfolding packed
packed-padded zero row z = refl
packed-padded (suc n) row z =
    let rest = drop-padded 8 row z in
    ap₂ ◌∷◌ (value-padded 8 row z) (ap (packed n) rest.1 ∙ packed-padded n (drop 8 row) rest.0)

-- The bits that are held are stored, in front of zero bits, and then all bytes from one place on are cleared, which is where they end.
pub packs_padded : (row : List ℕ) (at held acc : ℕ) (buffer after rest : List ℕ) (k from : ℕ)
    → held ≤ 8 * k → at + k ≤ length buffer → Stands row at held acc buffer
    → after ≡ put_mid at k buffer (bytes_high_first k (acc * 2 ^ (8 * k - held))) → from ≡ at + k → rest ≡ replicate (length rest) 0
    → length rest ≡ length (take (length after - from) (drop from after)) → put_mid from (length after - from) after rest ≡ packed (length buffer) row
packs_padded row at held acc buffer after rest k from few fits p is end zeros many =
    let z = 8 * k - held in
    let padded = row ++ in_width z 0 in
    let moved = acc * 2 ^ z in
    let same : moved + 0 ≡ moved = add-zero moved in
    let all : held + z ≡ 8 * k + 0 = omega arith in
    let whole : moved / 2 ^ 0 ≡ moved = omega arith in
    let more : Stands padded at (8 * k + 0) moved buffer = rw (← all, ← same) (packs_more row at acc buffer held z 0 (pow_pos z) p) in
    let stored : Stands padded (at + k) 0 moved after =
    rw is (subst (λ (m : ℕ). Stands padded (at + k) 0 moved (put_mid at k buffer (bytes_high_first k m))) whole (packs_bytes padded at moved buffer k 0 fits more)) in
    let long : length after ≡ length buffer = ap (length {A = ℕ}) is ∙ put-length at k moved buffer fits in
    packs_all padded (at + k) moved after rest from (omega (arith, long)) stored end zeros many
    ∙ ap (λ (n : ℕ). packed n padded) long
    ∙ packed-padded (length buffer) row z

-- The last bytes, of bits that are the highest of a word.
pub last : (acc free k : ℕ) → acc % 2 ^ free ≡ 0 → free ≤ 64 → 64 - free ≤ 8 * k → 8 * k ≤ 32
    → acc / 2 ^ 32 / 2 ^ (32 - 8 * k) ≡ acc / 2 ^ free * 2 ^ (8 * k - (64 - free))
last acc free k clear most few small =
    let a = acc / 2 ^ free in
    let z = 8 * k - (64 - free) in
    let j = 32 + (32 - 8 * k) in
    let all : free ≡ z + j = omega arith in
    shr-shr acc 32 (32 - 8 * k)
    ∙ ap (λ (m : ℕ). m / 2 ^ j) (moved-up acc free clear ∙ ap (λ (m : ℕ). a * 2 ^ m) all ∙ ap (λ (m : ℕ). a * m) (pow-add 2 z j) ∙ sym (mul_assoc a (2 ^ z) (2 ^ j)))
    ∙ shl-shr (a * 2 ^ z) j
