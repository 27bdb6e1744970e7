use Rattle.std.proofs.Common.{arith}
use Rattle.cnf_formula.specs.Literals.{code_of}
use Rattle.trail_core.proofs.{Listing.{Known, known, pooled_len, taken}, lists.WatchLists.take_out.Goals.After-index_mut-span}
use Rattle.trail_core.proofs.lists.WatchLists.take_out.Goals as goal

found : (c : After-index_mut-span) → Known c.self.inside.pool.items c.self.inside.spans.items c.self.inside.rooms.items c.args.self.now c.code.result (code_of c.args.lit) c.index_mut-span.result.now
found c = known _ _ _ _ _ _ _ c.self.invariant c.self.view_is c.code.ensures.code c.requires.known c.index_mut-span.ensures.value

pub invariant_of-self : goal.invariant_of-self
invariant_of-self c = let n = found (goal.at.invariant_of-self c).After-index_mut-span in pooled_len _ _ _ _ _ _ _ n _ _ _ (omega arith)

pub returns-clause-lists : goal.returns-clause-lists
returns-clause-lists c = let n = found (goal.at.returns-clause-lists c).After-index_mut-span in (taken _ _ _ _ _ _ _ n _ _ (omega arith) c.index.ensures).0

pub returns-clause-watches : goal.returns-clause-watches
returns-clause-watches c = let n = found (goal.at.returns-clause-watches c).After-index_mut-span in (taken _ _ _ _ _ _ _ n _ _ (omega arith) c.index.ensures).1
