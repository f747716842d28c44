-- Texts that are put one after the other are one text.
use Rattle.std.proofs.Common.{◌≡◌, ℕ, suc, ◌+◌, ◌≤◌, ◌<◌, List, [], ◌∷◌, ◌++◌, length, get_or, take, inl, inr, refl, sym, ap, ◌∙◌, arith}
use Rattle.std.proofs.lemmas.Bool.{cases_lt}
use Rattle.std.proofs.lemmas.List.{take_more, take_all, flat_map_more}
use Rattle.std.proofs.Math.ListN.{set, length-set, length-append}
use Rattle.std.proofs.Math.Seq.{sets, length-sets, set_out, length-take-le}
use Rattle.std.specs.List.{flat_map}
use Rattle.text.specs.declared.lines.Text.{Text}
use Rattle.text.specs.Inner.Puts.{Puts}
use Rattle.text.specs.Lines.{spaced, following}
use Rattle.text.specs.Put.{Put}

module _ {A : Type 0} where
  -- a run of stores in two parts
  sets_append : (xs ys l : List A) (i : ℕ) → sets l i (xs ++ ys) ≡ sets (sets l i xs) (i + length xs) ys
  sets_append [] ys l i = ap (λ (k : ℕ). sets l k ys) (omega arith)
  sets_append (x ∷ xs) ys l i = sets_append xs ys (set l i x) (suc i) ∙ ap (λ (k : ℕ). sets (sets (set l i x) (suc i) xs) k ys) (omega arith)

  -- and one past the end
  sets_out : (xs l : List A) (i : ℕ) → length l ≤ i → sets l i xs ≡ l
  sets_out [] l i h = refl
  sets_out (x ∷ xs) l i h = sets_out xs (set l i x) (suc i) (omega (arith, length-set l i x, h)) ∙ set_out l i x h

put-length : {before x after : List ℕ} {at next : ℕ} → Put before at x after next → length after ≡ length before
put-length {before = before} {x = x} {at = at} p = ap (length {A = ℕ}) p.text_is ∙ length-sets before at x

pub put_both : {before middle after x y : List ℕ} {at next end : ℕ} → Put before at x middle next → Put middle next y after end → Put before at (x ++ y) after end
put_both {before = before} {middle = middle} {x = x} {y = y} {at = at} {next = next} p q =
    let same : length middle ≡ length before = put-length p in
    record {
      text_is = elim (cases_lt (length before) (at + length x)) [
        | inl full ↦
            rw (q.text_is, sets_out y middle next (omega (arith, p.next-is)), p.text_is, sets_append x y before at)
            (sym (sets_out y (sets before at x) (at + length x) (omega (arith, length-sets before at x))))
        | inr fits ↦ let here : next ≡ at + length x = omega (arith, p.next-is) in rw (q.text_is, p.text_is, here, sets_append x y before at) refl
      ];
      next-is = omega (arith, p.next-is, q.next-is, length-append x y);
    }

-- the two together, said otherwise where that is wanted, and with any larger bound
pub puts_both : {old middle new : Text} {x y said : List ℕ} {m n most : ℕ} → Puts old middle x m → Puts middle new y n
    → said ≡ x ++ y → m + n ≤ most → Puts old new said most
puts_both {x = x} {y = y} p q e h = record {
  same_buffer = q.same_buffer ∙ p.same_buffer;
  put = rw e (put_both p.put q.put);
  short = rw e (omega (arith, p.short, q.short, length-append x y, h));
}

-- where a text ends: inside the buffer, and where it has room, after all of it
module _ {before new after : List ℕ} {next : ℕ} (p : Put before 0 new after next) where
  pub put_inside : next ≤ length after
  put_inside = omega (arith, p.next-is, put-length p)

  pub put_counts : next ≡ length (take next after)
  put_counts = sym (length-take-le next after put_inside)

  pub put_ends : length new ≤ length before → next ≡ length new
  put_ends room = omega (arith, p.next-is, room)

-- numbers after single spaces: one more, and the line feed after all of them
pub spaced-more : (ns : List ℕ) (i : ℕ) → i < length ns → flat_map spaced (take (i + 1) ns) ≡ flat_map spaced (take i ns) ++ spaced (get_or ns i 0)
spaced-more ns i h = rw (take_more ns i 0 h) (sym (flat_map_more spaced [] (take i ns) (get_or ns i 0)))

pub spaced_all : (ns : List ℕ) (i : ℕ) → length ns ≤ i → following ns ≡ flat_map spaced (take i ns) ++ (10 ∷ [])
spaced_all ns i h = rw (take_all i ns h) refl
