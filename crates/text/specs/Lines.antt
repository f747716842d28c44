-- What a line of the listing is made of: "unsigned decimals with single spaces", as bytes.
use Rattle.std.specs.Prelude.{ℕ, zero, suc, ◌+◌, ◌/◌, ◌%◌, true, false, List, [], ◌∷◌, ◌++◌, ltb, codes}
use Rattle.std.specs.List.{flat_map}

-- The digits of n, of which there are at most so many.
unfoldable pub digits : ℕ → ℕ → List ℕ
digits zero n = []
digits (suc more) n = elim (ltb n 10) [ true ↦ (48 + n) ∷ [] | false ↦ digits more (n / 10) ++ ((48 + n % 10) ∷ []) ]

-- An unsigned decimal. A number has fewer digits than it counts, or one.
unfoldable pub decimal : ℕ → List ℕ
decimal n = digits (suc n) n

-- A number after a single space.
abbrev pub spaced : ℕ → List ℕ
spaced n = codes " " ++ decimal n

-- The numbers that follow on a line, each after a single space; then the line feed.
abbrev pub following : List ℕ → List ℕ
following ns = flat_map spaced ns ++ codes "\n"
