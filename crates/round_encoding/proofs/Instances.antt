-- Chunks laid out over a topology's nodes make a candidate.
use Rattle.std.proofs.Common.{arith, ℕ, ◌+◌, ◌<◌, ◌≤◌}
use Rattle.schedule.{specs.Links.{TopologyValue, IsTopology}, proofs.Placing.placement-placed}
use Rattle.collective_spec.specs.{declared.layout.Layout.Layout, Layouts.laid_out}
use Rattle.round_encoding.specs.Candidates.{IsCandidate}

pub laid_candidate : (t : TopologyValue) (first last : Layout) (chunks steps rounds : ℕ) → IsTopology t → 0 < chunks → chunks ≤ 256 → 0 < steps → steps ≤ 16 → steps ≤ rounds → rounds ≤ steps + 8
    → IsCandidate t (laid_out first chunks t.nodes) (laid_out last chunks t.nodes) steps rounds
laid_candidate t first last chunks steps rounds topology some few_chunks one few least most = grind (arith, placement-placed)
