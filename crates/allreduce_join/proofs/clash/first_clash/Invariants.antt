use Rattle.std.proofs.Common.{◌≡◌}
use Rattle.schedule.specs.JoinedRuns.{first_clash}
use Rattle.allreduce_join.proofs.Clashed.{clash_from}
use Rattle.allreduce_join.proofs.clash.first_clash.Given as goal

abbrev pub invariant-loop-index : goal.invariant-loop-index
invariant-loop-index l = clash_from l.chunks l.nodes l.schedule l.adding l.index ≡ first_clash l.chunks l.nodes l.schedule l.adding
