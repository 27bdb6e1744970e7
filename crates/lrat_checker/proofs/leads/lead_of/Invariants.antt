use Rattle.std.proofs.Common.{◌≢◌, ◌<◌, length, take}
use Rattle.lrat_checker.specs.inner.Leads.{IsLead}
use Rattle.lrat_checker.proofs.leads.lead_of.Given as goal

abbrev pub invariant-loop-lit : goal.invariant-loop-lit
invariant-loop-lit l = record {
  lead : IsLead (take l.lit-index l.clause) l.lead;
  within : l.lead ≢ 0 → l.lead < length l.lists;
}
