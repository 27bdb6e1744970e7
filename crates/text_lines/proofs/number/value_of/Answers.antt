use Rattle.std.proofs.Common.{get_or, refl}
use Rattle.text_lines.proofs.Numbers.{next_not}
use Rattle.text_lines.proofs.number.value_of.Goals as goal

pub returns-in_err-value-clause-none : goal.returns-in_err-value-clause-none
returns-in_err-value-clause-none c =
    rw c.from_residual.ensures
    (λ n small. next_not c.args.digits.now c.loop-byte.byte-index c.loop-byte.value (get_or c.args.digits.now c.loop-byte.byte-index 0) n c.loop-byte-test.true c.loop-byte.invariant.value refl c.in_err-value.ensures.none small)
