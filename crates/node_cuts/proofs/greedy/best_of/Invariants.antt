use Rattle.std.{proofs.Common.{◌≡◌, ◌<◌, ℕ, List, drop, length, Option, None, Some}, specs.Option.option_map}
use Rattle.node_cuts.specs.{declared.greedy.Choice.Choice, Sides.NodeSet, Cuts.best_of, Opened.{MarksOpen, choice_of}}
use Rattle.node_cuts.proofs.greedy.best_of.Given as goal

abbrev pub invariant-loop-number : goal.invariant-loop-number
invariant-loop-number l = record {
  best : (u : NodeSet) (taken : List ℕ) → MarksOpen l.uncovered.cells u l.topology taken
      → (first : Option ℕ) × (l.best ≡ option_map (choice_of u l.topology taken) first) × (best_of u l.topology taken first (drop l.number-index l.numbers) ≡ best_of u l.topology taken None l.numbers);
  within : (choice : Choice) → l.best ≡ Some choice → choice.group < length l.topology.groups;
}
