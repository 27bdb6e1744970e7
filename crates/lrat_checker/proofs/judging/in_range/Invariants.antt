use Rattle.std.{proofs.Common.{◌≡◌, drop, take, All}, specs.List.list_any}
use Rattle.cnf_formula.specs.Formulas.{IsAbout}
use Rattle.proof_rules.specs.Judging.{is_foreign}
use Rattle.lrat_checker.proofs.judging.in_range.Given as goal

abbrev pub invariant-loop-lit : goal.invariant-loop-lit
invariant-loop-lit l = record {
  rest : list_any (is_foreign l.vars) l.lits ≡ list_any (is_foreign l.vars) (drop l.lit-index l.lits);
  about : All (IsAbout l.vars) (take l.lit-index l.lits);
}
