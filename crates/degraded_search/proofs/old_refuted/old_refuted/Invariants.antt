use Rattle.std.{proofs.Common.{◌≡◌, take}, specs.List.flat_map}
use Rattle.degraded_search.proofs.old_refuted.old_refuted.Given as goal

abbrev pub invariant-loop-frontier : goal.invariant-loop-frontier
invariant-loop-frontier l = l.old.items ≡ flat_map (λ x. x.1.refuted) (take l.frontier-index l.report.frontiers)
