use Rattle.std.proofs.Common.{arith}
use Rattle.trail_core.proofs.{Listing.{known, entry_at}}
use Rattle.trail_core.proofs.lists.WatchLists.entry.Goals as goal

pub returns : goal.returns
returns c =
    let n = known _ _ _ _ _ _ _ c.self.invariant c.self.view_is c.code.ensures.code c.requires.known c.index.ensures in
    let e = entry_at _ _ _ _ _ _ _ n _ _ (omega arith) c.index-2.ensures in
    record { clause = e.0; stands = e.1 }
