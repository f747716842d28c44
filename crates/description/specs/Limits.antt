-- The limits of a description.
use Rattle.std.specs.Prelude.{ℕ}

-- "description empty or over 1,024 bytes"
unfoldable pub most_bytes : ℕ
most_bytes = 1024

-- "A description holds 1 to 64 nodes."
unfoldable pub most_nodes : ℕ
most_nodes = 64

-- Request 4: "64 nodes allow 31" binds around one node, which no refusal says.
unfoldable pub most_binds : ℕ
most_binds = 31
