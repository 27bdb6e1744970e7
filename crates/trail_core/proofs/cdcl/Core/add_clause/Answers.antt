use Rattle.std.proofs.Common.{sym, subst}
use Rattle.trail_core.specs.Kept.{CanAdd}
use Rattle.trail_core.proofs.cdcl.Core.add_clause.Goals as goal

pub hold-requires-clause-place : goal.hold-requires-clause-place
hold-requires-clause-place c = subst (λ x. CanAdd x c.args.lits.now) (sym c.self.view_is) c.requires.place
