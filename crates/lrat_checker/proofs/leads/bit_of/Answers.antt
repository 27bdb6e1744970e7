use Rattle.std.proofs.{Common.{ap, ◌∙◌, arith, ◌^◌, ◌%◌}, lemmas.Nat.one_shl, Math.Nat.mod-lt}
use Rattle.lrat_checker.proofs.leads.bit_of.Goals as goal

pub returns : goal.returns
returns c = one_shl (c.code.result % 64) 64 (mod-lt c.code.result (omega arith)) ∙ ap (λ n. 2 ^ (n % 64)) c.code.ensures.code
