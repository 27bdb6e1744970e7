use Rattle.std.proofs.Common.{codes, refl}
use Rattle.proof_audit.{specs.Proving.is_refutation, proofs.{Whole.{verdict_as, some_as, refutation_is, never_satisfied}, Verdicts.of_result}}
use Rattle.proof_audit.proofs.files.refutation_file.Goals as goal

pub returns : goal.returns
returns g c =
    let f = c.args.formula.now in
    let same = refutation_is f _ _ c.in_ok-judge.ensures.passes c.in_ok-test.ensures in
    let done = c.judge_file.ensures in
    record {
      told = done.told;
      stay = done.stay;
      exact = λ t. verdict_as _ (is_refutation f) same (g.H.Shelf.file c.args.shelf.now c.args.name) c.judge_file.result (done.exact t);
      some = of_result (is_refutation f) (codes "x") c.judge_file.result refl (λ e. some_as _ (is_refutation f) same (done.some e));
      unsatisfiable = λ e. never_satisfied f (some_as _ (is_refutation f) same (done.some e));
      cause = done.cause;
    }
