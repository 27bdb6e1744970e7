use Rattle.std.proofs.Common.{◌≡◌, false, subst, All}
use Rattle.candidate_order.specs.Frontiers.{UnknownValue}
use Rattle.candidate_solver.specs.Questions.{asked}
use Rattle.node_cuts.specs.Cutting.{is_cut}
use Rattle.degraded_search.proofs.Uncut.{given_up_uncut}
use Rattle.degraded_search.proofs.searching.nothing_is_left_open.Goals as goal

pub returns-clause-uncut : goal.returns-clause-uncut
returns-clause-uncut c =
    let f = c.args.frontier.now in
    let within = c.inner.result.now in
    subst (λ w. All (λ (u : UnknownValue). is_cut w.sets (asked w.inner.question) u.candidate ≡ false) f.unknown) c.inner.ensures.inner
    (given_up_uncut f _ _ c.requires _ c.inner.ensures.entries within.sets (asked within.inner.question) c.carried_is_refuted.ensures.unknown c.inner-within.ensures.refuted)
