use Rattle.std.proofs.{lemmas.{Grind.common_steps, List.{map_push, take_more, take_all, length-map}}, Common.{refl, arith}}
use Rattle.trail_core.proofs.Pooling.{pooled_push, none_push, none_viewed, none_listed}
use Rattle.trail_core.proofs.lists.WatchLists.new.Goals as goal

pub loop-room-init : goal.loop-room-init
loop-room-init c = grind (arith, common_steps)

pub loop-room-preserved : goal.loop-room-preserved
loop-room-preserved c =
    let i = c.loop-room.invariant in
    record {
      capacity = grind (arith, common_steps);
      long = grind (arith, common_steps);
      pooled = rw (c.push_reserved.ensures.items, c.push_reserved-in-loop-room.ensures.items) (pooled_push _ _ _ _ i.pooled (omega arith) (omega arith));
      none = rw (c.push_reserved.ensures.items) (none_push _ _ i.none refl);
      rooms = grind (arith, take_more, map_push);
      uses = grind (arith, take_more, map_push);
    }

pub invariant_of-result : goal.invariant_of-result
invariant_of-result c = grind arith

pub returns : goal.returns
returns c = grind (arith, take_all, none_listed, none_viewed, length-map)
