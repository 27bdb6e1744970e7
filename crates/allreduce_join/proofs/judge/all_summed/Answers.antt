use Rattle.std.{proofs.{Common.{sym, ap, ◌∙◌}, lemmas.Result.IfOk-weaker}, specs.Prelude.unwrap_or}
use Rattle.inversion.specs.Judging.{counts_judged}
use Rattle.allreduce_join.{specs.Judging.joined_bags, proofs.Judged.{joined_counts, joined_due, told}}
use Rattle.allreduce_join.proofs.judge.all_summed.Goals as goal

pub returns-in-Some : goal.returns-in-Some
returns-in-Some c =
    let t = c.args.topology.now in
    let s = c.args.schedule.now in
    let last = joined_bags t s c.args.adding in
    let due = joined_due t c.args.chunks s c.args.adding in
    let all = told t c.args.chunks s c.args.adding c.in-Some.fault c.in_ok-fault.ensures.limits c.requires.in_range (ap (λ o. unwrap_or o (counts_judged last due)) (sym c.in-Some.is) ∙ c.in_ok-fault.ensures.fault last due) in
    record { exact = all.exact; summed = all.summed }

pub returns : goal.returns
returns c =
    let t = c.args.topology.now in
    let s = c.args.schedule.now in
    let last = joined_bags t s c.args.adding in
    let due = joined_due t c.args.chunks s c.args.adding in
    let fine = ap (λ o. unwrap_or o (counts_judged last due)) (sym c.in_default.is) ∙ c.in_ok-fault.ensures.fault last due in
    let all = IfOk-weaker c.judge_counts.result _ _ (λ v said. told t c.args.chunks s c.args.adding v c.in_ok-fault.ensures.limits c.requires.in_range (joined_counts t c.args.chunks s c.args.adding c.nodes-nodes.result c.in_ok-everywhere.everywhere v c.nodes-nodes.ensures.nodes c.in_ok-everywhere.ensures said fine)) c.judge_counts.ensures in
    record { exact = IfOk-weaker c.judge_counts.result _ _ (λ v it. it.exact) all; summed = IfOk-weaker c.judge_counts.result _ _ (λ v it. it.summed) all }
