-- How long a listing can be.
use Rattle.std.specs.Prelude.{ℕ, ◌+◌, ◌*◌}

-- The longest listing: a first line of 30 bytes, and 1,024 entries of eight numbers, each with ten digits and what follows it.
abbrev pub most_text : ℕ
most_text = 30 + 88 * 1024
