-- A bind's number is stored in the last free place, in front of the numbers lent before; any other kind lends nothing.
use Rattle.std.proofs.Common.{rules, ◌≡◌, ℕ, suc, ◌-◌, ◌<◌, ◌≤◌, cond, eqb, List, ◌∷◌, length, drop, set, ℤ, pos, sym, refl, ap, ◌∙◌, ap₂, arith, drop-cons, get_or-set_same, drop-set-lt, lt-length-set, to_z-of_z, w64, eq-eqb, ne_eqb}
use Rattle.description.specs.Bodies.{byte_of}
use Rattle.description.specs.Inner.Children.{binding}
use Rattle.rules.specs.Entries.{fail}
use Rattle.reader.specs.Inner.Pairs.{Lent}
use Rattle.reader.proofs.pairs.lend.Goals as goal
use Rattle.reader.proofs.pairs.lend.Goals.{then-first-eq-FAIL, else-first-eq-FAIL}

module _ (code : ℕ) (number : ℤ) (free : ℕ) (lent : List ℤ) (some : 0 < free) (room : free ≤ length lent) (z : ℤ) where
  stored : z ≡ cond (eqb code fail) (pos 0) number → Lent 5 code number free lent (set lent (free - 1) z) (free - 1)
  unfolding binding
  stored e =
      let last : suc (free - 1) ≡ free = omega arith in
      let inside : free - 1 < length lent = omega arith in
      let there : free - 1 < length (set lent (free - 1) z) = lt-length-set lent (free - 1) z inside in
      record {
        left = refl;
        numbers =
            drop-cons (set lent (free - 1) z) (free - 1) (pos 0) there
            ∙ ap₂ ◌∷◌ (get_or-set_same lent (free - 1) z (pos 0) inside ∙ e) (drop-set-lt (suc (free - 1)) lent (free - 1) z (omega arith) ∙ ap (λ (n : ℕ). drop n lent) last);
        kept = drop-set-lt free lent (free - 1) z (omega arith);
      }

pub returns-after-first-eq-FAIL : goal.returns-after-first-eq-FAIL
returns-after-first-eq-FAIL c =
    rw c.in-Bind.is
    (stored c.args.first.code c.args.first.number c.args.free c.args.lent.now (c.requires.1 (ap byte_of c.in-Bind.is)) c.requires.0 _
    (elim c.if-first-eq-FAIL.branch [
      | then-first-eq-FAIL w ↦ w.lent-is ∙ sym (rw (eq-eqb c.args.first.code fail w.if-first-eq-FAIL.true))
      | else-first-eq-FAIL w ↦ w.lent-is ∙ to_z-of_z {w = w64} {z = c.args.first.number} (search rules) ∙ sym (rw (ne_eqb c.args.first.code fail w.if-first-eq-FAIL.false))
    ]))

pub returns-in_default : goal.returns-in_default
unfolding binding
returns-in_default c = record { left = search rules; numbers = search rules; kept = refl }
