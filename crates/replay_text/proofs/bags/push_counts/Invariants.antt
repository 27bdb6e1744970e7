use Rattle.std.proofs.Common.{◌≡◌, ◌++◌}
use Rattle.bag_runs.specs.Kept.{counted}
use Rattle.replay_text.specs.inner.Appended.{digits_of}
use Rattle.replay_text.proofs.bags.push_counts.Given as goal

abbrev pub invariant-loop-node : goal.invariant-loop-node
invariant-loop-node l = l.out.items ≡ l.initial.out.items ++ digits_of (counted l.node l.bag)
