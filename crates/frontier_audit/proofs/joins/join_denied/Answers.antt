use Rattle.std.proofs.{Common.{Some, ap, subst, sym, ◌∙◌, slice_get}, lemmas.Option.slice_get_past}
use Rattle.frontier_audit.{specs.{declared.verdict.Reason.TheVariants.JoinWrong, Joining.IsSummable}, proofs.Pairing.{agrees, differs, got_at, lacks}}
use Rattle.frontier_audit.proofs.joins.join_denied.Goals as goal

pub is_due-requires : goal.is_due-requires
is_due-requires c = let at = c.in-Some.ensures.lookup.3 in subst (IsSummable c.args.topology.now) (sym (at.1 c.in-Some.printed.now)) (c.requires.joined c.args.place c.in-Some.printed.now at.0)

pub returns-in_default-clause-denied : goal.returns-in_default-clause-denied
returns-in_default-clause-denied c =
    ap (λ x. Some (JoinWrong, x)) c.candidate.ensures ∙ lacks c.args.topology.now c.args.first.now c.args.second.now c.in_ok-due.due c.in_ok-due.ensures.exact (slice_get c.args.joined.now c.args.place) (slice_get_past c.args.joined.now c.args.place c.in_default.ensures.lookup.3)

pub returns-then-branch-clause-denied : goal.returns-then-branch-clause-denied
returns-then-branch-clause-denied c =
    let p = c.in-Some.printed.now in
    let at = c.in-Some.ensures.lookup.3 in
    agrees c.args.topology.now c.args.first.now c.args.second.now c.in_ok-due.due c.in_ok-due.ensures.exact (slice_get c.args.joined.now c.args.place) p (got_at c.args.joined.now c.args.place p at.0 (at.1 p)) _ _ c.candidate-2.ensures c.in_ok-is_due.ensures c.if-branch.true

pub returns-clause-denied : goal.returns-clause-denied
returns-clause-denied c =
    let p = c.in-Some.printed.now in
    let at = c.in-Some.ensures.lookup.3 in
    ap (λ x. Some (JoinWrong, x)) c.candidate-else-branch.ensures
    ∙ differs c.args.topology.now c.args.first.now c.args.second.now c.in_ok-due.due c.in_ok-due.ensures.exact (slice_get c.args.joined.now c.args.place) p (got_at c.args.joined.now c.args.place p at.0 (at.1 p)) _ _ c.candidate-2.ensures c.in_ok-is_due.ensures c.if-branch.false
