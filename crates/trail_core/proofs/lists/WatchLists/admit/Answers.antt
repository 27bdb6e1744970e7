use Rattle.std.proofs.Common.{length, arith, ap}
use Rattle.std.proofs.lemmas.List.{length-map, length-set}
use Rattle.list_laws.proofs.Fronts.{at_map, same_map}
use Rattle.trail_core.{proofs.{Pooling.pooled_roomy, Listing.{known, admitted}, Rooms.{no_less, at_written, used_more}}}
use Rattle.trail_core.proofs.lists.WatchLists.admit.Goals as goal

pub invariant_of-self : goal.invariant_of-self
invariant_of-self c =
    let n = known _ _ _ _ _ _ _ c.self.invariant c.self.view_is c.code-code.ensures.code c.requires.known c.index_mut.ensures.value in
    let e = c.admit.ensures in
    pooled_roomy _ _ _ _ _ _ _ _ _ c.self.invariant n.within (omega (arith, c.requires.uses, ap (λ w. length w.uses) c.self.view_is, length-map c.self.inside.rooms.items (λ r. r.uses))) c.index_mut.ensures.value c.index_mut-2.ensures.value e.long e.small e.inside e.place

pub returns-clause-rooms : goal.returns-clause-rooms
returns-clause-rooms c = grind (arith, no_less, length-map)

pub returns-clause-ok : goal.returns-clause-ok
returns-clause-ok c = grind (arith, at_written, used_more, length-map, at_map)

pub returns-clause-err : goal.returns-clause-err
returns-clause-err c = grind (arith, same_map, length-map)

pub returns-clause-len : goal.returns-clause-len
returns-clause-len c = grind (arith, length-set, length-map)

pub returns-clause-lists : goal.returns-clause-lists
returns-clause-lists c = grind (arith, known, admitted)

pub returns-clause-watches : goal.returns-clause-watches
returns-clause-watches c = grind (arith, known, admitted)
