use Rattle.std.proofs.Common.{◌≡◌, ℕ, ◌+◌, ◌<◌, min, length, get_or}
use Rattle.bag_runs.proofs.bag.Bag.added.Given as goal

abbrev pub invariant-loop-node : goal.invariant-loop-node
invariant-loop-node l = record {
  size : length l.counts ≡ 16;
  sums : (k : ℕ) → k < l.node → get_or l.counts k 0 ≡ min (get_or l.self-inside.counts k 0 + get_or l.other-inside.counts k 0) 2;
}
