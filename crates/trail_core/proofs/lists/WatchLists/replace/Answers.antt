use Rattle.std.proofs.Common.{arith}
use Rattle.trail_core.proofs.{Listing.{known, replaced}}
use Rattle.trail_core.proofs.lists.WatchLists.replace.Goals as goal

pub returns-clause-lists : goal.returns-clause-lists
returns-clause-lists c = grind (arith, known, replaced)

pub returns-clause-watches : goal.returns-clause-watches
returns-clause-watches c =
    let n = known _ _ _ _ _ _ _ c.self.invariant c.self.view_is c.code.ensures.code c.requires.known c.index.ensures in
    (replaced _ _ _ _ _ _ _ n _ _ (omega arith) c.requires.is).1
