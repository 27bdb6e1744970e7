use Rattle.std.proofs.Common.{subst, All}
use Rattle.cnf_formula.specs.Formulas.{IsClause}
use Rattle.trail_core.{specs.{Formed.IsTrail, Kept.AreGrounded, Meaning.IsClosedBelow}, proofs.{Forming.about_by, Levels.closed_below}}
use Rattle.trail_core.proofs.cdcl.Core.trail.Goals as goal

pub returns-clause-closed_below : goal.returns-clause-closed_below
returns-clause-closed_below c =
    let i = c.self.inside in
    subst IsClosedBelow c.self.view_is (closed_below i.store i.lists i.trail i.head i.short.items c.self.invariant c.len-many.ensures.consistent)

pub returns-clause-grounded : goal.returns-clause-grounded
returns-clause-grounded c = subst AreGrounded c.self.view_is c.self.invariant.grounded

pub returns-clause-formed : goal.returns-clause-formed
returns-clause-formed c = subst (λ x. IsTrail x.vars x.trail x.limits) c.self.view_is c.lits.ensures.formed

pub returns-clause-about : goal.returns-clause-about
returns-clause-about c = let i = c.self.inside in subst (λ x. All (IsClause x.vars) x.clauses) c.self.view_is (about_by i.trail.vars i.store c.self.invariant.can.are_rows)
