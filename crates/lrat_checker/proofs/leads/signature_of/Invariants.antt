use Rattle.std.proofs.Common.{◌≡◌, take}
use Rattle.lrat_checker.specs.inner.Leads.{signature_of}
use Rattle.lrat_checker.proofs.leads.signature_of.Given as goal

abbrev pub invariant-loop-lit : goal.invariant-loop-lit
invariant-loop-lit l = l.signature ≡ signature_of (take l.lit-index l.clause)
