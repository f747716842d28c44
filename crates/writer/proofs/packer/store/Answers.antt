-- Byte by byte: those that are stored are the first of the word's.
use Rattle.std.proofs.Common.{◌≡◌, ℕ, suc, ◌+◌, ◌-◌, List, [], ◌∷◌, ◌++◌, take, sym, ap, ◌∙◌, ap₂, add-one, arith}
use Rattle.std.proofs.lemmas.List.{take_more_set}
use Rattle.std.specs.Int.{byte_at, bytes_high_first}
use Rattle.writer.proofs.Packing.{byte-shifted, bytes-more}
use Rattle.writer.proofs.packer.store.Goals as goal

pub loop-i-preserved : goal.loop-i-preserved
loop-i-preserved c =
    let l = c.loop-i in
    let w = c.args.word in
    let k = c.min-n.result - 1 - l.i in
    let all : c.min-n.result ≡ suc (l.i + k) = omega arith in
    take_more_set l.bytes l.i _ (omega arith)
    ∙ ap₂ (λ (bs : List ℕ) (b : ℕ). bs ++ b ∷ []) l.invariant (byte-shifted k w)
    ∙ sym (ap₂ (λ (j m : ℕ). take j (bytes_high_first m w)) (add-one l.i) all
    ∙ bytes-more l.i k w
    ∙ ap (λ (m : ℕ). take l.i (bytes_high_first m w) ++ byte_at k w ∷ []) (sym all))
