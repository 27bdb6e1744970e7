use Rattle.std.proofs.Common.{◌≡◌, [], ◌∷◌, ◌++◌, None, length, sym, ap, ◌∙◌, subst}
use Rattle.trail_core.{specs.{Assigned.IsOpen, Trails.lits_of, Search.clauses_of, Meaning.IsClosed}, proofs.{Keeping.implied_closed, Levels.{done_closed, kept_decide}, cdcl.Core.assume.Goals.After-propagate_all-closed}}
use Rattle.trail_core.proofs.cdcl.Core.assume.Goals as goal

closed : (c : After-propagate_all-closed) → IsClosed (lits_of c.self.inside.trail.steps) (clauses_of c.self.inside.store)
closed c = subst (λ x. IsClosed (lits_of x.trail) x.clauses) (sym c.self.view_is) c.requires.closed

same : (c : After-propagate_all-closed) → c.propagate_all-closed.new.trail.steps ≡ c.self.inside.trail.steps
same c = implied_closed (closed c) c.propagate_all-closed.ensures.implied

pub decide-requires-clause-open : goal.decide-requires-clause-open
decide-requires-clause-open c = subst (λ ss. IsOpen (lits_of ss) c.args.lit) (sym (same (goal.at.decide-requires-clause-open c).After-propagate_all-closed ∙ ap (λ x. x.trail) c.self.view_is)) c.requires.open

pub invariant_of-self : goal.invariant_of-self
invariant_of-self c =
    let i = c.self.inside in
    let p = c.propagate_all-closed in
    let after = (goal.at.invariant_of-self c).After-propagate_all-closed in
    let d = done_closed p.new.store p.new.trail p.new.head p.result (rw (same after, p.ensures.same) (closed after)) p.ensures.answer in
    rw c.decide.ensures (kept_decide p.new.store p.new.lists p.new.trail p.new.head i.short.items c.args.lit (rw c.deref.ensures.value at p.ensures.kept) d)

pub returns : goal.returns
returns c =
    let p = c.propagate_all-closed in
    let old = c.args.self.now in
    let steps = same (goal.at.returns c).After-propagate_all-closed ∙ ap (λ x. x.trail) c.self.view_is in
    let vars : p.new.trail.vars ≡ old.vars = p.ensures.vars ∙ ap (λ x. x.vars) c.self.view_is in
    let clauses : clauses_of p.new.store ≡ old.clauses = p.ensures.same ∙ ap (λ x. x.clauses) c.self.view_is in
    let limits : p.new.trail.limits ≡ old.limits = p.ensures.limits ∙ ap (λ x. x.limits) c.self.view_is in
    ap (λ t. record { vars = t.vars; clauses = clauses_of p.new.store; trail = t.steps; limits = t.limits }) c.decide.ensures
    ∙ (λ i. record { vars = vars i; clauses = clauses i; trail = steps i ++ record { lit = c.args.lit; reason = None } ∷ []; limits = limits i ++ length (steps i) ∷ [] })
