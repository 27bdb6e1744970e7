use Rattle.std.proofs.Common.{◌≡◌, take}
use Rattle.conflict_analysis.specs.Met.{left_of}
use Rattle.conflict_analysis.proofs.analyze.kept_lits.Given as goal

abbrev pub invariant-loop-lit : goal.invariant-loop-lit
invariant-loop-lit l = l.left.items ≡ left_of l.walk.stamp l.walk.marks.items (take l.lit-index l.walk.lits.items)
