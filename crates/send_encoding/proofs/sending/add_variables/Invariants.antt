use Rattle.std.proofs.Common.{◌≡◌, ◌+◌}
use Rattle.send_encoding.proofs.sending.add_variables.Given as goal

abbrev pub invariant-loop-i : goal.invariant-loop-i
invariant-loop-i l = l.formula ≡ record { vars = l.initial.formula.vars + l._i; clauses = l.initial.formula.clauses }
