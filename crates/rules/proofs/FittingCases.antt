-- Fitting at work: case A fits; a scan that skipped does not; what an absorb holds may fit though it was read with an error.
use Prim.Native.Nat.{ℕ}
use mathlib.Core.List.{List, [], ◌∷◌}
use mathlib.Core.Logic.{inr}
use mathlib.Core.Path.{◌≡◌, refl}
use native.Mathlib.Omega.{arith}
use lib.Dec.{lit≤}
use lib.IntN.{negsuc}
use Rattle.bits.specs.Bits.{total, bit, number}
use Rattle.bits.specs.Whole.{modulo}
use Rattle.description.specs.Nodes.{subtract, constant, bound}
use Rattle.description.specs.Trees.{Tree, unit, bottom, bits, bind, sequence, compute, absorb, scan}
use Rattle.rules.specs.Entries.{Entry}
use Rattle.rules.specs.Fitting.{Leaf, Turns, is_signed, recorded, Fits}
use Rattle.rules.specs.Numbers.{value_of, result}

-- A line of the listing.
abbrev pub entry : (node begin end code errors number detail size : ℕ) → Entry
entry node begin end code errors number detail size =
    record { node = node; number = number; detail = detail; size = size; begin = begin; end = end; code = code; errors = errors }

-- node n alone
leaf : (n : ℕ) (e : Entry) → e.node ≡ n → e.size ≡ 1 → Leaf n e []
leaf n e node size = record { stands = record { node = node; size = size }; alone = refl }

turned : List ℕ
turned = 0xff ∷ 0xfa ∷ 0x00 ∷ 0x04 ∷ []

case-A :
    Fits turned (bind 4 (bits 0 16) (bind 3 (bits 1 16) (compute 2 16 subtract (bound 0) (bound 1)))) []
    (entry 4 0 32 0 0 0 0 5)
    (entry 0 0 16 0 0 65530 0 1 ∷ entry 3 16 32 0 0 0 0 3 ∷ entry 1 16 32 0 0 4 0 1 ∷ entry 2 32 32 0 0 10 0 1 ∷ [])
unfolding Fits turned total number bit recorded is_signed modulo result value_of
case-A = (
  record { node = refl; size = refl },
  record {
    first = entry 0 0 16 0 0 65530 0 1;
    firsts = [];
    second = entry 3 16 32 0 0 0 0 3;
    seconds = entry 1 16 32 0 0 4 0 1 ∷ entry 2 32 32 0 0 10 0 1 ∷ [];
    are = refl;
    first_fits = (leaf 0 _ refl refl, refl, lit≤ tt, refl);
    second_fits = (
      record { node = refl; size = refl },
      record {
        first = entry 1 16 32 0 0 4 0 1;
        firsts = [];
        second = entry 2 32 32 0 0 10 0 1;
        seconds = [];
        are = refl;
        first_fits = (leaf 1 _ refl refl, refl, lit≤ tt, refl);
        second_fits = (leaf 2 _ refl refl, refl, refl);
        spans = record { begin = refl; next = refl; end = refl };
      },
    );
    spans = record { begin = refl; next = refl; end = refl };
  },
)

-- any tree and any entries beneath: 8 bits skipped are 8 too many
skipped : (child : Tree) (beneath : List Entry) → Fits (0x00 ∷ 0x2a ∷ []) (scan 2 child) [] (entry 2 0 16 1 1 0 8 3) beneath → ⊥
unfolding Fits
skipped child beneath fits = let detail : ◌≡◌ {A = ℕ} 8 0 = fits.1 in omega arith

-- 5 bits are there and a second 5 are not: read with 1 error; one element over those 5 bits fits
pub absorbed : Fits (0x00 ∷ []) (absorb 4 (sequence 3 (bits 0 5) (unit 1) (bottom 2) (constant (negsuc 0)))) [] (entry 4 0 5 1 1 0 0 1) []
unfolding Fits total number bit
absorbed = (
  leaf 4 _ refl refl,
  (
    entry 3 0 5 0 0 0 1 2 ∷ entry 0 0 5 0 0 0 0 1 ∷ [],
    record {
      child = entry 3 0 5 0 0 0 1 2;
      run = entry 0 0 5 0 0 0 0 1 ∷ [];
      is = refl;
      begin = refl;
      end = refl;
      fits = (
        record { node = refl; size = refl },
        inr (Turns.last (entry 0 0 5 0 0 0 0 1) [] refl refl refl refl (leaf 0 _ refl refl, refl, lit≤ tt, refl)),
      );
    },
  ),
)
