use Rattle.std.proofs.Common.{◌≡◌, take}
use Rattle.link_faults.proofs.narrowing.groups_with_width.Given as goal

abbrev pub invariant-loop-other : goal.invariant-loop-other
invariant-loop-other l = l.all.items ≡ take l.other-index l.topology.groups
