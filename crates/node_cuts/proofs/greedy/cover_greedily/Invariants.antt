use Rattle.std.{proofs.Common.{◌≡◌, ◌-◌, ◌<◌, length, filter}, specs.List.All}
use Rattle.schedule.specs.Tables.{Marks}
use Rattle.node_cuts.specs.{Sides.NodeSet, Cuts.{all_groups, best_taken, cover_greedily, enters, opens}, Opened.MarksOpen}
use Rattle.node_cuts.proofs.greedy.cover_greedily.Given as goal

abbrev pub invariant-loop-turn : goal.invariant-loop-turn
invariant-loop-turn l = record {
  taken : All (λ g. g < length l.topology.groups) l.taken.items;
  left : All (λ g. g < length l.topology.groups) l.left.items;
  turns : (u : NodeSet) → Marks l.fn.into.cells (enters u)
      → MarksOpen l.uncovered.cells u l.topology l.taken.items × (l.left.items ≡ filter (opens u l.topology l.taken.items) (all_groups l.topology))
      × (best_taken u l.topology (length l.topology.groups - l.turn) l.taken.items ≡ cover_greedily u l.topology);
}
