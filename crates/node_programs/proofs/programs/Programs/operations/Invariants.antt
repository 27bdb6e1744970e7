use Rattle.std.proofs.Common.{◌≡◌, length, take, sum_by}
use Rattle.node_programs.proofs.programs.Programs.operations.Given as goal

abbrev pub invariant-loop-program : goal.invariant-loop-program
invariant-loop-program l = l.count ≡ sum_by (λ ops. length ops) (take l.program-index l.program-items)
