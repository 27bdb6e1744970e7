use Rattle.std.proofs.Common.{◌≡◌, ◌^◌}
use Rattle.node_cuts.specs.{Sides.mask_of, inner.Listed.members}
use Rattle.node_cuts.proofs.members.Members.mask.Given as goal

abbrev pub invariant-loop-node : goal.invariant-loop-node
invariant-loop-node l = record { mask : l.mask ≡ mask_of l.node (members l.self); bit : l.bit ≡ 2 ^ l.node }
