use Rattle.std.proofs.Common.{◌≡◌, ◌+◌, find, length}
use Rattle.schedule.{specs.Judging.{is_overfull, first_overfull}, proofs.Grids.rows_from}
use Rattle.schedule.proofs.bandwidth.first_overfull.Given as goal

abbrev pub invariant-loop-index : goal.invariant-loop-index
invariant-loop-index l = find (is_overfull l.topology l.schedule) (rows_from (l.index + 1) (length l.schedule.rounds + 1) (length l.topology.groups)) ≡ first_overfull l.topology l.schedule
