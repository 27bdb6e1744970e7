use Rattle.std.proofs.{lemmas.{Bool.Decides.nat_tests, Grind.common_steps}, Common.{arith, None, sym, ◌∙◌, refl, rules}}
use Rattle.frontier_audit.{specs.declared.verdict.AuditVerdict.TheVariants.Verified, proofs.Verified.{judged_by_joins, judged_by_parts, report_logs, report_right}}
use Rattle.frontier_audit.proofs.auditing.audit.Goals as goal

pub returns-in-Some : goal.returns-in-Some
returns-in-Some g c = grind (arith, judged_by_parts)

pub returns-in-Some-2 : goal.returns-in-Some-2
returns-in-Some-2 g c = grind (arith, nat_tests, common_steps, judged_by_joins)

pub returns : goal.returns
returns g c =
    let judged = judged_by_joins c.args.report.now c.in_ok-part.ensures.beside c.in_default.is c.parts_denied.ensures.valid None (sym c.in_default-2.is ∙ c.in_ok-denial.ensures) Verified refl in
    record {
      told = search rules;
      stay = search rules;
      exact = judged.exact;
      some = judged.some;
      right = λ e. report_right c.args.report.now judged.some.files c.parts_denied.ensures.valid judged.some.is;
      logs = λ e. report_logs c.args.report.now judged.some.files c.parts_denied.ensures.valid judged.some.is;
      cause = search rules;
    }
