use Rattle.std.proofs.Common.{◌≡◌, ◌<◌, ℕ, false, slice_index_or}
use Rattle.node_cuts.{specs.Tables.no_measure, proofs.Tabled.is_over}
use Rattle.node_cuts.proofs.table.CutTable.first_cut.Given as goal

abbrev pub invariant-loop-place : goal.invariant-loop-place
invariant-loop-place l = (k : ℕ) → k < l.place → is_over l.times l.r (slice_index_or l.self.measures k no_measure) ≡ false
