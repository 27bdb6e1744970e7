use Rattle.std.proofs.Common.{inr, refl}
use Rattle.json_values.proofs.Values.{value_is, no_value}
use Rattle.json_values.proofs.reading.value_of.Goals as goal

pub returns-in-Ok-clause-value : goal.returns-in-Ok-clause-value
returns-in-Ok-clause-value c = value_is c.args.bytes.now _ c.in-Ok.ensures.ok.0 c.in-Ok.ensures.ok.1

pub returns-else-is_memory-clause-err : goal.returns-else-is_memory-clause-err
returns-else-is_memory-clause-err c = inr (refl, no_value c.args.bytes.now (c.in-Err.ensures.err (λ memory. let said = c.if-is_memory.ensures.1 memory in cc)))
