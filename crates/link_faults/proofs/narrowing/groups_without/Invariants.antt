use Rattle.std.proofs.Common.{◌≡◌, take}
use Rattle.link_faults.specs.Narrowed.{left_of}
use Rattle.link_faults.proofs.narrowing.groups_without.Given as goal

abbrev pub invariant-loop-group : goal.invariant-loop-group
invariant-loop-group l = l.left.items ≡ left_of l.lost (take l.group-index l.groups)
