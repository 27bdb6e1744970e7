use Rattle.std.proofs.Common.{arith}
use Rattle.conflict_analysis.proofs.{Bits.has_inserted, place_set.PlaceSet.insert.Goals.{then-word-eq0+in_ok-push, else-word-eq0}}
use Rattle.conflict_analysis.proofs.place_set.PlaceSet.insert.Goals as goal

pub returns-clause-place : goal.returns-clause-place
returns-clause-place c = grind (arith, then-word-eq0+in_ok-push, else-word-eq0, has_inserted)
