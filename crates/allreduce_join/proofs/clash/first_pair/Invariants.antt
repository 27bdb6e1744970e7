use Rattle.std.proofs.Common.{◌≡◌, find}
use Rattle.schedule.{specs.Placed.{all_pairs, holds}, proofs.Grids.rows_from}
use Rattle.allreduce_join.proofs.clash.first_pair.Given as goal

abbrev pub invariant-loop-chunk : goal.invariant-loop-chunk
invariant-loop-chunk l = find (holds l.placement) (rows_from l.chunk l.chunks l.nodes) ≡ find (holds l.placement) (all_pairs l.chunks l.placement.nodes)
