-- What is printed for case A, whole, and for standard inputs that state a wrong length or stop too soon: computed.
use Rattle.std.proofs.Common.{◌≡◌, ℕ, List, [], ◌∷◌, ◌++◌, refl}
use Rattle.std.specs.Prelude.{codes}
use Rattle.rules.proofs.Evaluate.{evaluated}
use Rattle.text.specs.Lines.{digits, decimal}
use Rattle.text.specs.Listing.{entry_line, entry_lines, printed, listed, listing}

-- Case A: "00 17" and 23 bytes of description, then FF FA 00 04.
case_a : List ℕ
case_a =
    0x00 ∷ 0x17 ∷ 0x02 ∷ 0x10 ∷ 0x02 ∷ 0x10 ∷ 0x0a ∷ 0x10 ∷ 0x01 ∷ 0x01 ∷ 0x00 ∷ 0x00 ∷ 0x00 ∷ 0x00 ∷ 0x01 ∷ 0x00 ∷ 0x00 ∷ 0x00 ∷ 0x01 ∷ 0x05 ∷ 0x01 ∷ 0x02 ∷ 0x05 ∷ 0x00 ∷ 0x03 ∷ 0xff ∷ 0xfa ∷ 0x00 ∷ 0x04 ∷ []

-- Its six lines.
lines_a : List ℕ
lines_a =
    codes "ok 5 32\n"
    ++ codes "4 0 32 0 0 0 0 5\n"
    ++ codes "0 0 16 0 0 65530 0 1\n"
    ++ codes "3 16 32 0 0 0 0 3\n"
    ++ codes "1 16 32 0 0 4 0 1\n"
    ++ codes "2 32 32 0 0 10 0 1\n"

whole : listing case_a ≡ lines_a
unfolding evaluated digits decimal entry_line entry_lines printed listed listing case_a lines_a
whole = refl

-- 1,025 and 0 bytes are stated; one byte in all; two bytes of a description of three
lengths : (listing (4 ∷ 1 ∷ []) ≡ codes "refused 1 0\n")
    × (listing (0 ∷ 0 ∷ []) ≡ codes "refused 1 0\n")
    × (listing (4 ∷ []) ≡ codes "short input\n")
    × (listing (0 ∷ 3 ∷ 2 ∷ 8 ∷ []) ≡ codes "short input\n")
unfolding evaluated digits decimal listed listing
lengths = (refl, refl, refl, refl)
