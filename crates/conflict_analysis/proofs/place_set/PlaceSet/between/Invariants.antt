use Rattle.conflict_analysis.proofs.Bits.{IsScan}
use Rattle.conflict_analysis.proofs.place_set.PlaceSet.between.Given as goal

abbrev pub invariant-loop-word : goal.invariant-loop-word
invariant-loop-word l = IsScan l.self l.to l.index l.word

abbrev pub decreases-loop-word : goal.decreases-loop-word
decreases-loop-word l = l.index
