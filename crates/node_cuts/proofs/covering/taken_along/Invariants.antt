use Rattle.std.proofs.Common.{◌≡◌, [], drop}
use Rattle.schedule.specs.Tables.{Marks}
use Rattle.node_cuts.specs.{Sides.NodeSet, Cuts.{enters, taken_along}, Opened.MarksOpen}
use Rattle.node_cuts.proofs.covering.taken_along.Given as goal

abbrev pub invariant-loop-number : goal.invariant-loop-number
invariant-loop-number l = (u : NodeSet) → Marks l.fn.into.cells (enters u)
    → (taken_along u l.topology l.groups.items (drop l.number-index l.numbers) ≡ taken_along u l.topology [] l.numbers) × MarksOpen l.uncovered.cells u l.topology l.groups.items
