use Rattle.std.proofs.{Common.{sym, ◌∙◌, subst, inl, inr, ⊎_elim}}
use Rattle.trail_core.specs.{Assigned.{IsFalse}, Trails.lits_of}
use Rattle.trail_core.proofs.{Visits.{pushed_satisfied, pushed_scanned, scanned_same, open_by}, Blocking.{Visited, visited_by}, propagate.visit.Goals.After-clause-id}
use Rattle.trail_core.proofs.propagate.visit.Goals as goal

-- the entry, as it is read
visited : (c : After-clause-id) → Visited c.args.trail.now.vars c.args.store.now c.args.falsified (record { clause = c.clause-id.result; pair = c.entry-watch.result.pair; blocker = c.blocker-blocker.result })
visited c =
    subst (Visited _ _ _) (λ i. record { clause = sym c.clause-id.ensures i; pair = c.entry-watch.result.pair; blocker = sym c.blocker-blocker.ensures i })
    (visited_by _ c.args.lists.now c.args.trail.now c.args.falsified c.args.place _ c.requires.can c.requires.within c.entry-watch.ensures.clause c.entry-watch.ensures.stands)

pub is_true-requires : goal.is_true-requires
is_true-requires c = (visited (goal.at.is_true-requires c).After-clause-id).of_vars.within

pub returns-then-is_true-clause-scanned : goal.returns-then-is_true-clause-scanned
returns-then-is_true-clause-scanned c = scanned_same c.args.falsified c.args.store.now c.args.trail.now

pub returns-then-is_true-clause-handled : goal.returns-then-is_true-clause-handled
returns-then-is_true-clause-handled c = λ h. rw (← c.entry-watch.ensures.clause, ← c.clause-id.ensures) (c.blocker-blocker.result, (visited (goal.at.returns-then-is_true-clause-handled c).After-clause-id).own, c.is_true.ensures.0 c.if-is_true.true)

pub is_false-requires : goal.is_false-requires
is_false-requires c = (visited (goal.at.is_false-requires c).After-clause-id).of_vars.within

pub returns-then-is_false-clause-scanned : goal.returns-then-is_false-clause-scanned
returns-then-is_false-clause-scanned c = scanned_same c.args.falsified c.args.store.now c.args.trail.now

pub returns-then-is_false-clause-handled : goal.returns-then-is_false-clause-handled
returns-then-is_false-clause-handled c =
    let v = visited (goal.at.returns-then-is_false-clause-handled c).After-clause-id in
    (v.within, λ l h. ⊎_elim (λ e. subst (IsFalse _) (sym e) (c.is_false.ensures.0 c.if-is_false.true)) (λ e. subst (IsFalse _) (sym e) c.requires.is_false) (v.pair (sym c.is_pair.ensures ∙ c.if-not-is_pair.false) l h))

pub push-requires-clause-within : goal.push-requires-clause-within
push-requires-clause-within c = (visited (goal.at.push-requires-clause-within c).After-clause-id).of_vars.within

pub returns-clause-scanned : goal.returns-clause-scanned
returns-clause-scanned c =
    let v = visited (goal.at.returns-clause-scanned c).After-clause-id in
    pushed_scanned c.args.store.now c.args.trail.now c.push.new.self c.clause-id.result c.args.falsified c.blocker-blocker.result v.within v.own v.own_false (open_by _ _ _ _ c.is_true.ensures c.is_false.ensures c.if-is_true.false c.if-is_false.false)
    (λ o h. ⊎_elim (λ e. inl e) (λ e. inr (subst (IsFalse (lits_of c.args.trail.now.steps)) (sym e) c.requires.is_false)) (v.pair (sym c.is_pair.ensures ∙ c.if-not-is_pair.false) o h)) c.push.ensures

pub returns-clause-handled : goal.returns-clause-handled
returns-clause-handled c = λ h. pushed_satisfied _ _ _ _ _ _ (visited (goal.at.returns-clause-handled c).After-clause-id).own c.push.ensures (c.clause-id.ensures ∙ c.entry-watch.ensures.clause)
