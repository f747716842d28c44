-- A number of one digit is that digit.
use Rattle.std.proofs.Common.{arith}
use Rattle.text.proofs.Decimals.{decimal_digit}
use Rattle.text.proofs.lines.Text.number.Goals as goal

pub returns-then-n-lt10 : goal.returns-then-n-lt10
returns-then-n-lt10 c =
    let p = c.byte.ensures in
    rw (decimal_digit c.args.n c.if-n-lt10.true) (record { same_buffer = p.same_buffer; put = p.put; short = omega (arith, p.short) })
