use Rattle.std.proofs.Common.{codes, refl}
use Rattle.proof_audit.{specs.Proving.is_spent_log, proofs.{Whole.{verdict_as, some_as, log_is, has_log}, Verdicts.of_result}}
use Rattle.proof_audit.proofs.files.log_file.Goals as goal

pub returns : goal.returns
returns g c =
    let f = c.args.formula.now in
    let same = log_is f _ _ c.in_ok-judge.ensures.passes c.args.count c.in_ok-test.ensures in
    let done = c.judge_file.ensures in
    record {
      told = done.told;
      stay = done.stay;
      exact = λ t. verdict_as _ (is_spent_log f c.args.count) same (g.H.Shelf.file c.args.shelf.now c.args.name) c.judge_file.result (done.exact t);
      some = of_result (is_spent_log f c.args.count) (codes "x") c.judge_file.result refl (λ e. some_as _ (is_spent_log f c.args.count) same (done.some e));
      log = λ e. has_log f c.args.count (some_as _ (is_spent_log f c.args.count) same (done.some e));
      cause = done.cause;
    }
