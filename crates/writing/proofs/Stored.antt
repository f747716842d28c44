-- What stands behind a call of the reader that succeeds, with no error at the root, of a description that 14 does not refuse.
use Prim.Native.Nat.{ℕ, ◌*◌, ◌≤◌}
use mathlib.Core.Bool.{false}
use mathlib.Core.List.{List, []}
use mathlib.Core.Path.{◌≡◌, sym, ap, subst, ◌∙◌}
use native.Mathlib.Omega.{arith}
use lib.ListN.{length}
use Rattle.bits.specs.Bits.{total}
use Rattle.description.specs.Check.{accepted, meaning}
use Rattle.description.specs.Trees.{Tree}
use Rattle.rules.specs.Entries.{Entry}
use Rattle.rules.specs.Outcome.{success, most_input, outcome}
use Rattle.rules.specs.Reading.{read}
use Rattle.rules.proofs.Heads.{read_headed}
use Rattle.rules.proofs.Outcomes.{outcome-lengths}
use Rattle.rules.proofs.Spans.{read-within}
use Rattle.rules.proofs.Tables.{room-values}
use Rattle.promises.specs.Table.{entry_at}
use Rattle.promises.proofs.Accepted.{accepted-sound}
use Rattle.promises.proofs.Agreeing.{Agrees, agrees-own}
use Rattle.promises.proofs.Succeeded.{succeeded}
use Rattle.promises.proofs.Tabled.{outcome-agrees}
use Rattle.writing.specs.Entries.{entry_words, holds}
use Rattle.writing.specs.Fields.{fields_of, some_unwritable}
use Rattle.writing.proofs.FieldedNodes.{accepted_fielded}
use Rattle.writing.proofs.TiledReading.{clean-tiled}
use Rattle.writing.proofs.Tiling.{Tiled}

-- The tables have these entries, as many as were counted, which tile the input up to the end.
pub record Stored (desc input values descriptors : List ℕ) (count end : ℕ) : Type 0 where
  pub tree : Tree
  pub means : meaning desc ≡ accepted tree
  pub entries : List Entry
  pub are : Agrees (entry_at values descriptors) 0 entries
  pub many : length entries ≡ count
  pub held : count ≤ holds values
  pub tiled : Tiled input (fields_of desc) 0 entries end
  pub few : end ≤ 8 * most_input

module _ (v d : ℕ) (desc input : List ℕ) (count end : ℕ) where
  abbrev values : List ℕ
  values = (outcome v d desc input).values

  abbrev descriptors : List ℕ
  descriptors = (outcome v d desc input).descriptors

  pub stored : (outcome v d desc input).answer ≡ success count end → (entry_at values descriptors 0).errors ≡ 0 → some_unwritable (fields_of desc) ≡ false
      → Stored desc input values descriptors count end
  unfolding holds entry_words total
  stored s clean writable =
      let p = succeeded v d desc input count end s in
      let t = p.tree in
      let r = read input t [] 0 in
      let are = outcome-agrees v d desc input t p.means p.short p.fit in
      let h = read_headed input t [] 0 in
      let own = agrees-own (entry_at values descriptors) h 0 are in
      let root-clean : r.errors ≡ 0 = sym h.errors ∙ sym (ap (λ (e : Entry). e.errors) own.0) ∙ clean in
      let tiled = clean-tiled input (fields_of desc) writable t (accepted_fielded desc t p.means) (accepted-sound desc t p.means) [] 0 root-clean in
      let within = read-within input t [] 0 (omega arith) in
      record {
        tree = t;
        means = p.means;
        entries = r.entries;
        are = are;
        many = sym p.counted;
        held = omega (arith, (outcome-lengths v d desc input).0, room-values v d (length r.entries) p.fit, p.counted);
        tiled = subst (Tiled input (fields_of desc) 0 r.entries) (sym p.ended) tiled;
        few = omega (arith, within.to, p.ended, p.short);
      }
