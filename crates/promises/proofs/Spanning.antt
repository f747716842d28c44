-- Spans and sizes in the tables of a successful call are as promised.
use Prim.Native.Nat.{ℕ, ◌<◌}
use mathlib.Core.List.{List, []}
use mathlib.Core.Path.{◌≡◌, sym, ap, subst}
use native.Mathlib.Nat.{le_trans}
use native.Mathlib.Omega.{arith}
use lib.ListN.{length}
use Rattle.bits.specs.Bits.{total}
use Rattle.description.specs.Trees.{Tree}
use Rattle.rules.specs.Entries.{Entry}
use Rattle.rules.specs.Outcome.{success, outcome}
use Rattle.rules.specs.Reading.{read}
use Rattle.rules.proofs.Heads.{read_headed}
use Rattle.rules.proofs.Spans.{read-within}
use Rattle.promises.specs.Spans.{Spans}
use Rattle.promises.specs.Table.{entry_at, after}
use Rattle.promises.proofs.Agreeing.{Agrees, subtree_after}
use Rattle.promises.proofs.NestedReadings.{read-nested}
use Rattle.promises.proofs.Parents.{child, parent_of, same-parent}
use Rattle.promises.proofs.Subtrees.{Subtrees, Whole, subtrees, first, each-whole}
use Rattle.promises.proofs.Succeeded.{succeeded}
use Rattle.promises.proofs.Tabled.{outcome-agrees}

-- A table that has the entries of a tree's reading.
module _ (at : ℕ → Entry) (input : List ℕ) (t : Tree) (agrees : Agrees at 0 (read input t [] 0).entries) where
  abbrev count : ℕ
  count = length (read input t [] 0).entries

  root-after : after at 0 ≡ count
  root-after = omega (arith, subtree_after at (read_headed input t [] 0) 0 agrees)

  root-size : (at 0).size ≡ count
  unfolding after
  root-size = omega (arith, root-after)

  -- the whole table is the root's subtree
  all : Subtrees at 0 (read input t [] 0).end 0 count
  all = subtrees at (read-nested input t [] 0 (omega arith)) 0 count (omega arith) agrees

  any-count : 0 < count
  any-count = let h = read_headed input t [] 0 in omega (arith, ap length h.entries)

  each : (i : ℕ) → i < count → Whole at i
  each i h = (each-whole at all i (omega arith) h).0

  pub agreeing_spans : Spans at count (total input)
  agreeing_spans =
      record {
        forward = λ i h. (each i h).forward;
        nested = λ i j h c. let f = child at i (each i h) j c in (f.from, f.to);
        inside = le_trans (first at all any-count).to (read-within input t [] 0 (omega arith)).to;
        parent = λ j h l. parent_of at 0 (each 0 any-count) j h (omega (arith, root-after));
        one_parent = λ i k j h l. same-parent at i k j (each i h) (each k l);
        whole = root-size;
        itself = λ i h. (each i h).itself;
        tiled = λ i j h c. (child at i (each i h) j c).ends;
      }

-- A success leaves such a table.
pub success-spans : (v d : ℕ) (desc input : List ℕ) (count end : ℕ) → (outcome v d desc input).answer ≡ success count end
    → Spans (entry_at (outcome v d desc input).values (outcome v d desc input).descriptors) count (total input)
success-spans v d desc input count end s =
    let r = succeeded v d desc input count end s in
    let at = entry_at (outcome v d desc input).values (outcome v d desc input).descriptors in
    let spans = agreeing_spans at input r.tree (outcome-agrees v d desc input r.tree r.means r.short r.fit) in
    subst (λ (n : ℕ). Spans at n (total input)) (sym r.counted) spans
