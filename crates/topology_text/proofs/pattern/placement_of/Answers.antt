use Rattle.std.proofs.Common.{◌∙◌, arith}
use Rattle.topology_text.proofs.Inserted.{pair_below, none_inserted, one_inserted}
use Rattle.topology_text.proofs.pattern.placement_of.Goals as goal

pub loop-chunk-init : goal.loop-chunk-init
loop-chunk-init c = grind (arith, none_inserted)

pub insert-requires-clause-chunk : goal.insert-requires-clause-chunk
insert-requires-clause-chunk c = grind (arith, pair_below)

pub insert-requires-clause-node : goal.insert-requires-clause-node
insert-requires-clause-node c = grind (arith, pair_below)

pub loop-chunk-preserved : goal.loop-chunk-preserved
loop-chunk-preserved c =
    c.insert.ensures.inserted ∙ one_inserted c.args.chunks c.args.nodes c.loop-chunk.placement c.args.pairs.now c.loop-chunk.chunk-index (0, 0) c.loop-chunk.invariant c.loop-chunk-test.true
