-- Request 1, of the tables: "A failed bits or signed read now answers its missing bits too, o + w - T, and the detail word of its entry holds them;
-- an ok read keeps 0."
use Rattle.std.specs.Prelude.{ℕ, ◌+◌, ◌-◌, ◌≤◌, ◌<◌, List, ◌⊎◌, ◌≡◌}
use Rattle.std.proofs.Math.Option.{some}
use Rattle.bits.specs.Bits.{total}
use Rattle.description.specs.Trees.{Tree, bits, signed}
use Rattle.rules.specs.Entries.{Entry, ok, fail}
use Rattle.promises.specs.Places.{Place, place_of}

-- What an entry of a number of w bits tells: it was all there, or so many of its bits are missing, from 1 to w and so to 32.
abbrev pub Told : (input : List ℕ) (w : ℕ) → Entry → Type 0
Told input w e =
    ((e.begin + w ≤ total input) × (e.code ≡ ok) × (e.detail ≡ 0))
    ⊎ ((e.code ≡ fail) × (e.detail ≡ e.begin + w - total input) × (1 ≤ e.detail) × (e.detail ≤ w) × (w ≤ 32))

-- A tree that is a number of w bits.
abbrev pub NumberOf : (w : ℕ) → Tree → Type 0
NumberOf w t = (n : ℕ) × ((t ≡ bits n w) ⊎ (t ≡ signed n w))

-- Of a table of so many entries: each entry of a bits or signed node tells it.
abbrev pub MissingTold : List ℕ → Tree → (ℕ → Entry) → ℕ → Type 0
MissingTold input root at count =
    (i : ℕ) → i < count → (p : Place) → place_of root at i ≡ some p → (w : ℕ) → NumberOf w p.tree → Told input w (at i)
