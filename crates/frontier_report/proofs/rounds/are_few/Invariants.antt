use Rattle.std.{proofs.Common.{◌≡◌, ◌&&◌, drop, nat_le}, specs.List.list_all}
use Rattle.frontier_report.proofs.rounds.are_few.Given as goal

abbrev pub invariant-loop-n : goal.invariant-loop-n
invariant-loop-n l = list_all (λ n. nat_le 1 n && nat_le n 9) (drop l.n-index l.rounds) ≡ list_all (λ n. nat_le 1 n && nat_le n 9) l.rounds
