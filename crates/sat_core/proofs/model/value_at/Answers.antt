use Rattle.std.proofs.Common.{◌+◌, false, ap, ◌∙◌, subst, Some}
use Rattle.cnf_formula.specs.Literals.{LitValue, yes}
use Rattle.trail_core.specs.{Assigned.IsValue, Meaning.trues}
use Rattle.sat_core.proofs.Once.{consistent_by}
use Rattle.sat_core.proofs.model.value_at.Goals as goal

pub returns-in-Some-clause-lacks : goal.returns-in-Some-clause-lacks
returns-in-Some-clause-lacks c = λ w e h.
    let ts = trues c.args.core.now in
    let l : LitValue = yes (c.args.index + 1) in
    let v : IsValue ts l (Some false) = subst (λ x. IsValue ts x (Some false)) c.new.ensures (subst (λ r. IsValue ts c.new.result r) (c.in-Some.is ∙ ap Some e) c.value.ensures) in
    consistent_by ts c.trail-known.ensures.formed.apart l h v
