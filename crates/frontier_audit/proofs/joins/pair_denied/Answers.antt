use Rattle.std.proofs.Common.{arith, Some, sym, subst, ap, ◌∙◌}
use Rattle.candidate_order.specs.declared.candidate.Candidate.{Candidate}
use Rattle.frontier_audit.{specs.inner.Steps.JoinsSay, proofs.Pairing.{one_goes, one_stops, with_same}}
use Rattle.frontier_audit.proofs.joins.pair_denied.Goals as goal

pub returns-in-Some : goal.returns-in-Some
returns-in-Some c =
    let t = c.args.topology.now in
    let a = c.args.first.now in
    let b = c.args.second.now in
    let joined = c.args.joined.now in
    let same = sym (ap (λ (x : Candidate). x.c) c.candidate.ensures) ∙ (c.if-candidate.false ∙ ap (λ (x : Candidate). x.c) c.candidate-2.ensures) in
    subst (λ ps. JoinsSay t ps joined c.args.place.now c.args.place.now (Some c.in-Some.denial)) (sym (with_same a b same)) (one_stops t joined (a, b) c.args.place.now c.args.place.now c.in-Some.denial (sym c.in-Some.is ∙ c.in_ok-denial.ensures.denied))

pub returns : goal.returns
returns c = grind (arith, with_same, one_goes)
