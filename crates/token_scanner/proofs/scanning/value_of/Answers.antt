use Rattle.std.proofs.Common.{arith}
use Rattle.token_scanner.proofs.Scan.{passed}
use Rattle.token_scanner.specs.Scanning.{decimal}
use Rattle.token_scanner.proofs.scanning.value_of.Goals as goal

pub returns-then-value-gt922337203685477580-clause-none : goal.returns-then-value-gt922337203685477580-clause-none
returns-then-value-gt922337203685477580-clause-none c = λ e. passed c.args.digits.now c.loop-digit.digit-index c.loop-digit.value (decimal 0 c.args.digits.now) c.loop-digit-test.true c.loop-digit.invariant.whole (omega (arith, c.if-value-gt922337203685477580.true))

pub returns-then-value-gt9223372036854775807-clause-none : goal.returns-then-value-gt9223372036854775807-clause-none
returns-then-value-gt9223372036854775807-clause-none c = λ e. passed c.args.digits.now c.loop-digit.digit-index c.loop-digit.value (decimal 0 c.args.digits.now) c.loop-digit-test.true c.loop-digit.invariant.whole (omega (arith, c.if-value-gt9223372036854775807.true, c.saturating_sub.ensures))
