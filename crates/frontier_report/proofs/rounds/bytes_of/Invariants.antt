use Rattle.std.proofs.Common.{◌≡◌, take}
use Rattle.frontier_report.proofs.rounds.bytes_of.Given as goal

abbrev pub invariant-loop-n : goal.invariant-loop-n
invariant-loop-n l = l.bytes.items ≡ take l.n-index l.rounds
