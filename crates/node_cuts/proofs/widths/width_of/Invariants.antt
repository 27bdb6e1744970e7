use Rattle.std.proofs.Common.{◌≡◌, ◌≤◌, ◌*◌, take}
use Rattle.node_cuts.specs.Cuts.{width_of}
use Rattle.node_cuts.proofs.widths.width_of.Given as goal

abbrev pub invariant-loop-group : goal.invariant-loop-group
invariant-loop-group l = record {
  summed : l.width ≡ width_of l.topology (take l.group-index l.groups);
  few : l.width ≤ 16 * l.group-index;
}
