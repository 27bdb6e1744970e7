use Rattle.std.proofs.Common.{◌≡◌, find, not}
use Rattle.schedule.{specs.Placed.{holds, lacks}, proofs.Grids.rows_from}
use Rattle.schedule.proofs.judge.first_lacking.Given as goal

abbrev pub invariant-loop-chunk : goal.invariant-loop-chunk
invariant-loop-chunk l = find (lacks l.post l.last) (rows_from l.chunk l.chunks l.nodes) ≡ find (λ pair. not (holds l.last pair)) l.post.pairs
