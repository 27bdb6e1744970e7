use Rattle.std.proofs.{Common.{arith, rules, inl, inr, refl}, lemmas.Grind.common_steps}
use Rattle.outer_ports.proofs.memory_sink.MemorySinkSink.write.Goals as goal
use Rattle.outer_ports.proofs.memory_sink.MemorySinkSink.write.Goals.{then-fails-via-then-fails, then-fails-via-else-fails+then-not-is_empty}

pub returns-then-fails-clause-fails : goal.returns-then-fails-clause-fails
returns-then-fails-clause-fails c = (λ _. elim c.then-fails.branch [ then-fails-via-then-fails w ↦ inl (search rules) | then-fails-via-else-fails+then-not-is_empty w ↦ inr (search rules) ], λ _. refl)

pub returns : goal.returns
returns c = record { fails = grind (arith, common_steps); count = grind (arith, common_steps); some = grind (arith, common_steps); cause = search rules; ok = grind (arith, common_steps); err = tt }
