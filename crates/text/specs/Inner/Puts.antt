-- What the functions that put lines promise each other.
use Rattle.std.specs.Prelude.{ℕ, ◌≤◌, List, ◌≡◌, length}
use Rattle.text.specs.declared.lines.Text.{Text}
use Rattle.text.specs.Put.{Put}

-- These bytes, so many at most, are put into the buffer that the text holds, at its next place.
pub record Puts (old new : Text) (bytes : List ℕ) (most : ℕ) : Type 0 where
  pub same_buffer : new.bytes.ghost_name ≡ old.bytes.ghost_name
  pub put : Put old.bytes.now old.next bytes new.bytes.now new.next
  pub short : length bytes ≤ most
