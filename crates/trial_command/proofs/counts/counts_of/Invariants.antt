use Rattle.std.proofs.Common.{◌≡◌, length, take, sum_by}
use Rattle.trial_command.proofs.counts.counts_of.Given as goal

-- the sums over the parts so far
abbrev pub invariant-loop-frontier : goal.invariant-loop-frontier
invariant-loop-frontier l = record {
  points : l.counts.points ≡ sum_by (λ x. length x.1.points) (take l.frontier-index l.frontier-items);
  refuted : l.counts.refuted ≡ sum_by (λ x. length x.1.refuted) (take l.frontier-index l.frontier-items);
  unknown : l.counts.unknown ≡ sum_by (λ x. length x.1.unknown) (take l.frontier-index l.frontier-items);
}
