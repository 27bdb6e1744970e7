use Rattle.std.proofs.Common.{◌≡◌, ℕ, ◌-◌, ◌≤◌, ◌<◌, ◌∷◌, length, drop, ◌+◌, negsuc}
use Rattle.lrat_checker.proofs.Grouped.{Left}
use Rattle.lrat_checker.proofs.redundancy.groups_fault.Given as goal

abbrev pub invariant-loop-at : goal.invariant-loop-at
invariant-loop-at l = record {
  marks : l.marks ≡ l.initial.marks;
  within : l.at ≤ length l.hints;
  negative : l.at < length l.hints → (n : ℕ) × (drop l.at l.hints ≡ negsuc n ∷ drop (l.at + 1) l.hints);
  left : Left l.table.held l.pivot l.initial.marks.falses l.hints l.named l.at;
}

abbrev pub decreases-loop-at : goal.decreases-loop-at
decreases-loop-at l = length l.hints - l.at
