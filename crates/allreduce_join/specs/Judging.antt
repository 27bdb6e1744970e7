-- The verdict on a schedule whose first steps add and whose later ones, if any, copy (this project's own order).
use Rattle.std.specs.Prelude.{ℕ, length}
use Rattle.schedule.specs.{Links.TopologyValue, Sends.ScheduleValue, Placed.{PlacementValue, all_pairs}, Judging.{first_unlinked, first_overfull}, Bags.{Bags, contributions}, JoinedRuns.{first_clash, joined_after}}
use Rattle.inversion.specs.{declared.verdict.SumVerdict.SumVerdict, Judging.{first_uneven, sum_judged}}

-- links first, then bandwidth, then clashes, and then the counts of the demanded chunks at their nodes
abbrev pub summed_verdict_of : TopologyValue → PlacementValue → ScheduleValue → ℕ → SumVerdict
summed_verdict_of t demand s adding =
    let last = joined_after (contributions t.nodes) s adding (length s.rounds) in
    sum_judged t s last (first_unlinked t s) (first_overfull t s) (first_clash demand.chunks t.nodes s adding) (first_uneven last t.nodes demand.pairs)

-- ---- where every chunk is demanded at every node

-- the bags after the last step
abbrev pub joined_bags : TopologyValue → ScheduleValue → ℕ → Bags
joined_bags t s adding = joined_after (contributions t.nodes) s adding (length s.rounds)

-- links first, then bandwidth, then clashes, and then the counts of every chunk at every node
abbrev pub joined_verdict_of : TopologyValue → ℕ → ScheduleValue → ℕ → SumVerdict
joined_verdict_of t chunks s adding =
    let last = joined_bags t s adding in
    sum_judged t s last (first_unlinked t s) (first_overfull t s) (first_clash chunks t.nodes s adding) (first_uneven last t.nodes (all_pairs chunks t.nodes))
