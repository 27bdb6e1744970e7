use Rattle.std.proofs.Common.{◌≡◌, take, sum_by}
use Rattle.round_encoding.specs.Candidates.{group_size}
use Rattle.candidate_formula.proofs.size.groups_size.Given as goal

abbrev pub invariant-loop-group : goal.invariant-loop-group
invariant-loop-group l = l.size ≡ sum_by (group_size l.chunks l.steps l.extra) (take l.group-index l.topology.groups)
