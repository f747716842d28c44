-- What the table of kinds says of a kind by its byte.
use Prim.Native.Nat.{ℕ, ◌≤◌, ◌<◌}
use mathlib.Core.Path.{◌≡◌, refl}
use Rattle.std.specs.Prelude.{Some, Result, Ok, Err}
use Rattle.std.specs.Result.{MatchResult, IsOk}
use borrow.Author.Tests.{lt-leb}
use lib.Dec.{lit≤, lit<}
use lib.ListN.{length, get_or-eq_default}
use Rattle.description.specs.Bodies.{body_of, byte_of, child_counts, child_count}
use Rattle.description.specs.Kinds.{unit_row, kinds, row_of}
use Rattle.description.specs.declared.kinds.Kind.{Kind}
use Rattle.description.specs.declared.kinds.Kind.TheVariants as kind
use Rattle.description.proofs.Ranges.{by_kind}

-- a kind's byte is in the table
pub byte_below : (k : Kind) → byte_of k < length kinds
unfolding kinds
byte_below kind.Unit = lit< tt
byte_below kind.Bottom = lit< tt
byte_below kind.Bits = lit< tt
byte_below kind.Signed = lit< tt
byte_below kind.Then = lit< tt
byte_below kind.Bind = lit< tt
byte_below kind.Either = lit< tt
byte_below kind.Both = lit< tt
byte_below kind.Where = lit< tt
byte_below kind.Sequence = lit< tt
byte_below kind.Compute = lit< tt
byte_below kind.Absorb = lit< tt
byte_below kind.Scan = lit< tt

module _ (kind : ℕ) where
  -- the body of a kind in the table
  pub body_known : kind < 13 → body_of kind ≡ Some (record { bytes = (row_of kind).bytes; children = child_count kind })
  unfolding kinds
  body_known h = unfold body_of in rw (lt-leb 13 kind h, body_of)

  -- past the table stands unit's row
  pub row-past : 13 ≤ kind → row_of kind ≡ unit_row
  unfolding row_of kinds
  row-past h = get_or-eq_default kinds unit_row h

  pub no_children : 13 ≤ kind → child_count kind ≡ 0
  unfolding child_count child_counts
  no_children h = get_or-eq_default child_counts 0 h

  -- no body is longer than a compute's
  pub body_bytes : (row_of kind).bytes ≤ 12
  unfolding row_of kinds unit_row
  body_bytes =
      by_kind (λ k. (row_of k).bytes ≤ 12) (lit≤ tt) (lit≤ tt) (lit≤ tt) (lit≤ tt) (lit≤ tt) (lit≤ tt) (lit≤ tt) (lit≤ tt) (lit≤ tt) (lit≤ tt) (lit≤ tt) (lit≤ tt) (lit≤ tt)
      (λ k h. rw (get_or-eq_default kinds unit_row h) (lit≤ tt))
      kind

-- what is given of a byte is a value, where the byte is none that is refused
pub no-error : {T E : Type 0} (r : Result T E) (P : T → Type 0) (Q : E → Type 0) → MatchResult r P Q → ((e : E) → Q e → ⊥) → IsOk r
no-error (Ok x) P Q given none = refl
no-error (Err e) P Q given none = absurd (none e given)
