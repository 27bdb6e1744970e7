use Rattle.degraded_links.proofs.Keeping.{none_at_first}
use Rattle.degraded_links.proofs.engine.CarryEngine.new.Goals as goal

pub invariant_of-result-clause-none : goal.invariant_of-result-clause-none
invariant_of-result-clause-none g c = none_at_first (g.E.EngineView.question c.args.inner) c.args.given c.args.group c.args.width c.args.old.items c.requires.width c.requires.topology c.requires.old
