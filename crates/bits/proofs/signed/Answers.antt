-- w bits are a number below 2 ^ w.
use Rattle.std.proofs.Common.{arith}
use Rattle.bits.specs.Lowest.{lowest}
use Rattle.bits.proofs.Numbers.{number-below}
use Rattle.bits.proofs.signed.Goals as goal

pub twos_complement-requires-clause-fits : goal.twos_complement-requires-clause-fits
unfolding lowest
twos_complement-requires-clause-fits c = grind (arith, number-below)
