use Rattle.std.proofs.Common.{◌≡◌, false, ◌*◌, ◌≤◌, length, take}
use Rattle.std.specs.List.{list_any, flat_map}
use Rattle.writer.specs.Inner.Entries.{wrong_entry, entry_bits}
use Rattle.writer.specs.Inner.Packing.{Packs}
use Rattle.writer.proofs.entries.write_entries.Given as goal

-- the entries before this one are right, and put
abbrev pub invariant-loop-node : goal.invariant-loop-node
invariant-loop-node l = record {
  same_reference : l.packer.buffer.ghost_name ≡ l.initial.packer.buffer.ghost_name;
  long : length l.packer.buffer.now ≡ length l.fn.buffer;
  near : l.packer.at ≤ 4 * l.node-index;
  right : list_any (wrong_entry l.fields) (take l.node-index l.entries) ≡ false;
  packs : Packs (flat_map (entry_bits l.fields) (take l.node-index l.entries)) l.packer;
}
