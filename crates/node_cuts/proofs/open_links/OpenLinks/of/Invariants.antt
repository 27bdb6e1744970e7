use Rattle.std.{proofs.Common.{◌≡◌, length, take}, specs.List.list_any}
use Rattle.schedule.specs.{Placed.same_pair, Tables.Marks}
use Rattle.node_cuts.proofs.open_links.OpenLinks.of.Given as goal

abbrev pub invariant-loop-from : goal.invariant-loop-from
invariant-loop-from l = record {
  marks : Marks l.cells (λ link. list_any (same_pair link) (take l.from-index l.links));
  whole : length l.cells ≡ 256;
}
