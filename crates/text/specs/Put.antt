-- What the functions that put text into a buffer promise.
use Rattle.std.specs.Prelude.{ℕ, ◌+◌, min, max, List, ◌≡◌, length}
use Rattle.std.proofs.lemmas.List.Edits.{sets}

-- New bytes stand in the buffer from one place on, as many of them as it has room for, and every other byte is as before; the next place
-- is where they end, or the buffer does.
pub record Put (before : List ℕ) (at : ℕ) (new after : List ℕ) (next : ℕ) : Type 0 where
  pub text_is : after ≡ sets before at new
  pub next-is : next ≡ max at (min (at + length new) (length before))
