-- How the parse goes on and stops, and what is kept while it goes on.
use Prim.Native.Nat.{ℕ, zero, suc, ◌+◌, ◌-◌, ◌≤◌, ◌<◌}
use mathlib.Core.Bool.{Bool}
use mathlib.Core.List.{List, [], ◌∷◌, ◌++◌}
use mathlib.Core.Option.{Option, none, some}
use mathlib.Core.Path.{◌≡◌, refl, sym, ap, subst, ◌∙◌}
use native.Mathlib.Nat.{sub-zero}
use native.Mathlib.Numerals.{add-one}
use native.Mathlib.Omega.{arith}
use lib.ListN.{length, get_or, set, get_or-append}
use lib.Seq.{sets, sets-eq, length-sets}
use borrow.Author.Tests.{le-ltb}
use Rattle.std.specs.Prelude.{Ok, Err}
use Rattle.description.specs.Check.{node_at, node_end, node_refusal, named_by, Parsed, parsed, stopped, nodes_from}
use Rattle.description.specs.Limits.{most_nodes}
use Rattle.description.specs.Inner.Names.{Marks}
use Rattle.description.specs.Nodes.{Node, children}
use Rattle.description.specs.Places.{start, starts_to, nodes_to, Stands, Found, standing, placed_starts}
use Rattle.description.specs.Inner.Steps.{Whole, step_of, counted}
use Rattle.description.specs.Refusals.{refusal_node}
use Rattle.description.specs.declared.Refusal.{Refusal}
use Rattle.description.specs.declared.Refusal.TheVariants.{TooManyNodes}
use Rattle.description.proofs.Marking.{named_snoc}
use Rattle.description.proofs.Numbered.{starts_length, starts_at, nodes-length}
use Rattle.description.proofs.Reached.{stand-next}

module _ (d : List ℕ) (before : List Node) (i : ℕ) where
  pub from_end : (left : ℕ) → length d ≤ i → nodes_from d left before i ≡ parsed before
  unfolding nodes_from
  from_end zero h = rw (le-ltb i (length d) h, nodes_from)
  from_end (suc left) h = rw (le-ltb i (length d) h, nodes_from)

  module _ (h : i < length d) where
    pub from_full : nodes_from d 0 before i ≡ stopped TooManyNodes
    unfolding nodes_from
    from_full = grind arith

    pub from_stop : (left : ℕ) (r : Refusal) → node_refusal d before i ≡ some r → nodes_from d (suc left) before i ≡ stopped r
    unfolding nodes_from
    from_stop left r e = grind arith

    pub from_next : (left : ℕ) → node_refusal d before i ≡ none → nodes_from d (suc left) before i ≡ nodes_from d left (before ++ (node_at d i ∷ [])) (node_end d i)
    unfolding nodes_from
    from_next left e = grind arith

-- what a step's answer says of the refusal
pub step_stop : (o : Option Refusal) (end : ℕ) (r : Refusal) → step_of o end ≡ Err r → o ≡ some r
unfolding step_of
step_stop o end r e = grind arith

pub step_next : (o : Option Refusal) (end p : ℕ) → step_of o end ≡ Ok p → (o ≡ none) × (p ≡ end)
unfolding step_of
step_next o end p e = (grind arith, grind arith)

-- one store more
sets_snoc : (l : List ℕ) (i : ℕ) (vs : List ℕ) (v : ℕ) → sets l i (vs ++ (v ∷ [])) ≡ set (sets l i vs) (i + length vs) v
sets_snoc l i [] v = let e : i ≡ i + 0 = omega arith in ap (λ (k : ℕ). set l k v) e
sets_snoc l i (w ∷ vs) v =
    let e : suc i + length vs ≡ i + suc (length vs) = omega arith in
    sets_snoc (set l i w) (suc i) vs v ∙ ap (λ (k : ℕ). set (sets (set l i w) (suc i) vs) k v) e

-- the parse after n nodes, at byte at
pub record Going (d starts₀ starts : List ℕ) (flags : List Bool) (at n : ℕ) : Type 0 where
  pub few : n ≤ most_nodes
  pub room : length starts₀ ≡ most_nodes
  pub here : at ≡ start d n
  pub placed : starts ≡ sets starts₀ 0 (starts_to d n)
  pub stand : (k : ℕ) → k < n → Stands d k
  pub marks : Marks flags (named_by (nodes_to d n))
  pub left : nodes_from d (most_nodes - n) (nodes_to d n) at ≡ nodes_from d most_nodes [] 0

pub going_start : (d starts : List ℕ) (flags : List Bool) → length starts ≡ most_nodes → Marks flags [] → Going d starts starts flags 0 0
unfolding start starts_to nodes_to named_by
going_start d starts flags room m =
    record {
      few = omega arith;
      room = room;
      here = refl;
      placed = refl;
      stand = λ k h. absurd (omega arith);
      marks = m;
      left = ap (λ (n : ℕ). nodes_from d n [] 0) (sub-zero most_nodes);
    }

module _ (d starts₀ starts : List ℕ) (flags : List Bool) (at n : ℕ) (g : Going d starts₀ starts flags at n) where
  pub going_found : Found d starts n
  going_found = record { room = ap length g.placed ∙ length-sets starts₀ 0 (starts_to d n) ∙ g.room; placed = place; stand = g.stand }
    where
      fits : 0 + length (starts_to d n) ≤ length starts₀
      fits = omega (arith, starts_length d n, g.room, g.few)

      place : (k : ℕ) → k < n → get_or starts k 0 ≡ start d k
      place k h =
          let inside : k < length (starts_to d n) = omega (arith, starts_length d n) in
          ap (λ l. get_or l k 0) (g.placed ∙ sets-eq (starts_to d n) starts₀ 0 fits)
          ∙ get_or-append (starts_to d n) _ 0 k inside
          ∙ starts_at d n k h

  pub going_full : at < length d → n ≡ most_nodes → nodes_from d most_nodes [] 0 ≡ stopped TooManyNodes
  going_full h e = let none_left : most_nodes - n ≡ 0 = omega arith in grind (arith, from_full d (nodes_to d n) at h, g.left)

  pub going_end : length d ≤ at → nodes_from d most_nodes [] 0 ≡ parsed (nodes_to d n)
  going_end h = sym g.left ∙ from_end d (nodes_to d n) at (most_nodes - n) h

  module _ (h : at < length d) (few : n < most_nodes) where
    one_more : most_nodes - n ≡ suc (most_nodes - suc n)
    one_more = omega arith

    pub going_stop : (r : Refusal) → node_refusal d (nodes_to d n) at ≡ some r → nodes_from d most_nodes [] 0 ≡ stopped r
    going_stop r e = sym g.left ∙ rw one_more (from_stop d (nodes_to d n) at h (most_nodes - suc n) r e)

    module _ (e : node_refusal d (nodes_to d n) at ≡ none) (flags' : List Bool) (m : Marks flags' (named_by (nodes_to d n) ++ children (node_at d at))) where
      pub going_next : Going d starts₀ (set starts n at) flags' (node_end d at) (n + 1)
      unfolding start starts_to nodes_to
      going_next =
          rw (add-one n)
          (record {
            few = omega arith;
            room = g.room;
            here = ap (node_end d) g.here;
            placed = next-placed;
            stand =
                stand-next d n g.stand
                (record {
                  begins = subst (λ (p : ℕ). p < length d) g.here h;
                  clear = subst (λ (p : ℕ). node_refusal d (nodes_to d n) p ≡ none) g.here e;
                });
            marks = next_marks;
            left = next-left;
          })
        where
          next-placed : set starts n at ≡ sets starts₀ 0 (starts_to d n ++ (start d n ∷ []))
          next-placed =
              let last : 0 + length (starts_to d n) ≡ n = omega (arith, starts_length d n) in
              ap (λ l. set l n at) g.placed
              ∙ ap (set (sets starts₀ 0 (starts_to d n)) n) g.here
              ∙ sym (sets_snoc starts₀ 0 (starts_to d n) (start d n) ∙ ap (λ (k : ℕ). set (sets starts₀ 0 (starts_to d n)) k (start d n)) last)

          next_marks : Marks flags' (named_by (nodes_to d n ++ (node_at d (start d n) ∷ [])))
          next_marks =
              subst (Marks flags')
              (ap (λ (p : ℕ). named_by (nodes_to d n) ++ children (node_at d p)) g.here ∙ sym (named_snoc (nodes_to d n) (node_at d (start d n)))) m

          next-left : nodes_from d (most_nodes - suc n) (nodes_to d n ++ (node_at d (start d n) ∷ [])) (node_end d at) ≡ nodes_from d most_nodes [] 0
          next-left =
              let one : most_nodes - n ≡ suc (most_nodes - suc n) = omega arith in
              ap (λ (p : ℕ). nodes_from d (most_nodes - suc n) (nodes_to d n ++ (node_at d p ∷ [])) (node_end d at)) (sym g.here)
              ∙ sym (from_next d (nodes_to d n) at h (most_nodes - suc n) e)
              ∙ ap (λ (k : ℕ). nodes_from d k (nodes_to d n) at) (sym one)
              ∙ g.left

module _ (d starts₀ starts : List ℕ) (flags : List Bool) (at n : ℕ) (g : Going d starts₀ starts flags at n) where
  placed_by : (p : Parsed) → nodes_from d most_nodes [] 0 ≡ p → standing p ≡ n → starts ≡ placed_starts d starts₀
  unfolding placed_starts
  placed_by p e s = g.placed ∙ ap (λ (k : ℕ). sets starts₀ 0 (starts_to d k)) (sym (ap standing e ∙ s))

  -- what the parse promises of its answer and of the starts where it stops
  pub answer-stopped : (r : Refusal) → nodes_from d most_nodes [] 0 ≡ stopped r → refusal_node r ≡ n
      → (Err r ≡ counted (nodes_from d most_nodes [] 0)) × (starts ≡ placed_starts d starts₀)
  unfolding counted standing
  answer-stopped r e node = (sym (ap counted e), placed_by (stopped r) e node)

  -- and, with the flags, where it reaches the end
  pub answer-parsed : length d ≤ at → (Ok n ≡ counted (nodes_from d most_nodes [] 0)) × ((starts ≡ placed_starts d starts₀) × Whole d starts flags n)
  unfolding counted standing
  answer-parsed h =
      let e = going_end d starts₀ starts flags at n g h in (
        sym (ap counted e ∙ ap Ok (nodes-length d n)),
        (
          placed_by (parsed (nodes_to d n)) e (nodes-length d n),
          record { nodes-are = e; found = going_found d starts₀ starts flags at n g; marks = g.marks; few = g.few; ends = subst (λ (p : ℕ). length d ≤ p) g.here h },
        ),
      )
