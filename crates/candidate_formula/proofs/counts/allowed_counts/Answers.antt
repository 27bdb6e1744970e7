use Rattle.std.proofs.lemmas.Result.{IfOk-weaker}
use Rattle.candidate_formula.proofs.Allowed.{are_increasing, are_allowed, none_allowed}
use Rattle.candidate_formula.proofs.counts.allowed_counts.Goals as goal

pub returns-clause-ascending : goal.returns-clause-ascending
returns-clause-ascending c = IfOk-weaker c.allowed_up_to.result _ _ (λ v is. are_increasing c.args.kind c.args.nodes c.max_c.result v.items is) c.allowed_up_to.ensures

pub returns-clause-allowed : goal.returns-clause-allowed
returns-clause-allowed c =
    IfOk-weaker c.allowed_up_to.result _ _ (λ v is. are_allowed c.args.limits.now c.args.kind c.args.nodes c.max_c.result v.items c.max_c.ensures.max_c is) c.allowed_up_to.ensures

pub returns-clause-empty : goal.returns-clause-empty
returns-clause-empty c =
    IfOk-weaker c.allowed_up_to.result _ _
    (λ v is. none_allowed c.args.limits.now c.args.kind c.args.nodes v.items (are_allowed c.args.limits.now c.args.kind c.args.nodes c.max_c.result v.items c.max_c.ensures.max_c is)) c.allowed_up_to.ensures
