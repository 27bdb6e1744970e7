use Rattle.cnf_formula.specs.Literals.{code_of}
use Rattle.trail_core.proofs.Blocking.{less_new}
use Rattle.trail_core.proofs.lists.WatchLists.shift.Goals as goal

pub returns-clause-watches : goal.returns-clause-watches
returns-clause-watches c = less_new c.args.self.now.watches c.take_out.new.self.watches c.add.new.self.watches (code_of c.args.to) c.args.watch c.take_out.ensures.watches c.add.ensures.watches
