-- A number is put behind the bits that are held; the first 32 of them, once there are so many, are stored.
use Rattle.std.proofs.Common.{◌≡◌, ℕ, ◌+◌, ◌*◌, ◌-◌, ◌/◌, ◌%◌, ◌^◌, ◌<◌, ◌≤◌, List, ◌++◌, length, take, drop, bit_or, ap, ◌∙◌, subst, arith}
use native.Mathlib.Decide.{dec_lt}
use Rattle.std.specs.Int.{bytes_high_first}
use Rattle.std.proofs.Math.Nat.{mul-mod_left}
use lib.Pow.{shl-shr}
use Rattle.writing.specs.Bits.{in_width, width_of}
use Rattle.writer.specs.Inner.Packing.{Stands}
use Rattle.writer.proofs.Packing.{joined, top, moved-out, packs_more, packs_low, packs_bytes, packs_past}
use Rattle.writer.proofs.packer.Packer.put.Goals as goal
use Rattle.writer.proofs.packer.Packer.put.Goals.{After-from}

-- the four bytes are stored, or there is no room for them; of the bits that are held then those that are left are the last
after-word : (row : List ℕ) (at f b word left : ℕ) (buffer after : List ℕ) → f ≤ 32 → word ≡ b / 2 ^ (32 - f) → left ≡ b % 2 ^ (32 - f)
    → (at + 4 ≤ length buffer → after ≡ take at buffer ++ (bytes_high_first 4 word ++ drop 4 (drop at buffer)))
    → (length buffer < at + 4 → after ≡ buffer) → Stands row at (64 - f) b buffer → Stands row (at + 4) (64 - (f + 32)) left after
after-word row at f b word left buffer after many is rest stored unchanged p =
    let r = 32 - f in
    let held : 64 - f ≡ 8 * 4 + r = omega arith in
    let here : r ≡ 64 - (f + 32) = omega arith in
    let whole : Stands row at (8 * 4 + r) b buffer = subst (λ (k : ℕ). Stands row at k b buffer) held p in
    let all : Stands row (at + 4) r b after = go whole (dec_lt (length buffer) (at + 4)) in
    rw (rest, ← here) (packs_low row (at + 4) b after r all)
  where
    go : Stands row at (8 * 4 + (32 - f)) b buffer → Dec (length buffer < at + 4) → Stands row (at + 4) (32 - f) b after
    go w (yes h) = rw (unchanged h) (packs_past row at b buffer 4 (32 - f) h w)
    go w (no n) =
        let h : at + 4 ≤ length buffer = omega arith in
        rw (stored h, is) (packs_bytes row at b buffer 4 (32 - f) h w)

-- what `acc` holds once the number is put: the bits that are held, above the places that are free
module _ (c : After-from) where
  abbrev w : ℕ
  w = width_of c.args.field

  abbrev f : ℕ
  f = c.args.self.now.free - c.width.result

  abbrev b : ℕ
  b = c.args.self.now.acc / 2 ^ c.args.self.now.free * 2 ^ w + c.args.bits

  acc-is : bit_or c.args.self.now.acc ((c.from.result * 2 ^ f) % 2 ^ 64) ≡ b * 2 ^ f
  acc-is =
      let p = c.args.self.now in
      rw (c.from.ensures, c.width.ensures.value) (joined p.acc c.args.bits p.free w p.clear c.requires.fits (omega arith) p.few.1)

  rest-is : f ≤ 32 → (bit_or c.args.self.now.acc ((c.from.result * 2 ^ f) % 2 ^ 64) * 2 ^ 32) % 2 ^ 64 ≡ b % 2 ^ (32 - f) * 2 ^ (f + 32)
  rest-is h = rw acc-is (moved-out b f h)

  held : (row : List ℕ) → Stands row c.args.self.now.at (64 - c.args.self.now.free) (c.args.self.now.acc / 2 ^ c.args.self.now.free) c.args.self.now.buffer.now
      → Stands (row ++ in_width w c.args.bits) c.args.self.now.at (64 - f) b c.args.self.now.buffer.now
  held row p =
      let more : 64 - c.args.self.now.free + w ≡ 64 - f = omega (arith, c.args.self.now.few, c.width.ensures.value) in
      subst (λ (k : ℕ). Stands (row ++ in_width w c.args.bits) c.args.self.now.at k b c.args.self.now.buffer.now) more
      (packs_more row c.args.self.now.at _ _ _ w c.args.bits c.requires.fits p)

pub invariant_of-self : goal.invariant_of-self
invariant_of-self c =
    let s = (goal.at.invariant_of-self c).After-from in
    record {
      few = (omega arith, omega arith);
      clear = ap (λ (n : ℕ). n % 2 ^ (f s + 32)) (rest-is s c.if-self-le32.true) ∙ mul-mod_left (b s % 2 ^ (32 - f s)) (2 ^ (f s + 32));
      near = omega arith;
    }

pub invariant_of-self-else-self-le32 : goal.invariant_of-self-else-self-le32
invariant_of-self-else-self-le32 c =
    let s = (goal.at.invariant_of-self-else-self-le32 c).After-from in
    record {
      few = (omega arith, omega arith);
      clear = ap (λ (n : ℕ). n % 2 ^ f s) (acc-is s) ∙ mul-mod_left (b s) (2 ^ f s);
      near = omega arith;
    }

pub returns-then-self-le32-clause-packs : goal.returns-then-self-le32-clause-packs
returns-then-self-le32-clause-packs c = λ row p.
    let s = (goal.at.returns-then-self-le32-clause-packs c).After-from in
    let few = c.if-self-le32.true in
    after-word (row ++ in_width (w s) c.args.bits) c.args.self.now.at (f s) (b s) _ _ c.args.self.now.buffer.now _ few
    (ap (λ (n : ℕ). n / 2 ^ 32) (acc-is s) ∙ top (b s) (f s) few)
    (ap (λ (n : ℕ). n / 2 ^ (f s + 32)) (rest-is s few) ∙ shl-shr (b s % 2 ^ (32 - f s)) (f s + 32))
    c.store_word.ensures.stored c.store_word.ensures.unchanged (held s row p)

pub returns-else-self-le32-clause-packs : goal.returns-else-self-le32-clause-packs
returns-else-self-le32-clause-packs c = λ row p.
    let s = (goal.at.returns-else-self-le32-clause-packs c).After-from in
    rw (acc-is s, shl-shr (b s) (f s)) (held s row p)
