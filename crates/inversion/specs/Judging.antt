-- The verdict on a schedule that adds up: the first part of the claim that it sums that does not hold (this project's own order).
use Rattle.std.specs.{Prelude.{◌==◌, ℕ, not, if◌then◌else◌, List, length, map, Option, None, Some, find, slice_index_or}, List.{flat_map, range_with_len}}
use Rattle.schedule.specs.{declared.hop.Hop.Hop, Links.TopologyValue, Sends.ScheduleValue, Placed.PlacementValue, Fitting.load, Bags.{Bags, contributions}, Judging.{first_unlinked, first_overfull, group_at}, Summing.bags_after}
use Rattle.inversion.specs.declared.verdict.SumVerdict.{SumVerdict, TheVariants.{Sums, Missing, Twice, Overfull, NoLink, Clash}}

-- each of these pairs of a chunk and a node, with each of so many nodes that contribute
abbrev pub counts_due : ℕ → List (ℕ × ℕ) → List (ℕ × ℕ × ℕ)
counts_due nodes pairs = flat_map (λ pair. map (λ node. (pair.0, pair.1, node)) (range_with_len 0 nodes)) pairs

-- how often the third, a node, has contributed to the chunk at the node
abbrev pub count_of : Bags → ℕ × ℕ × ℕ → ℕ
count_of bags due = slice_index_or (bags (due.0, due.1)) due.2 0

-- the first count at these pairs that is not 1
abbrev pub first_uneven : Bags → ℕ → List (ℕ × ℕ) → Option (ℕ × ℕ × ℕ)
first_uneven bags nodes pairs = find (λ due. not (count_of bags due == 1)) (counts_due nodes pairs)

-- it sums, unless a count is uneven: one other than 1 is missing, or at least 2
abbrev pub counts_judged : Bags → Option (ℕ × ℕ × ℕ) → SumVerdict
counts_judged last None = Sums
counts_judged last (Some due) = if count_of last due == 0 then Missing due.0 due.1 due.2 else Twice due.0 due.1 due.2

-- what is said of the first send without a link, or else of the first step and group over the bandwidth
abbrev pub misfit_at : TopologyValue → ScheduleValue → Option Hop → Option (ℕ × ℕ) → Option SumVerdict
misfit_at t s (Some h) over = Some (NoLink h)
misfit_at t s None (Some turn) = Some (Overfull turn.0 turn.1 (load (group_at t turn.1) turn.0 s.sends))
misfit_at t s None None = None

abbrev pub misfit_of : TopologyValue → ScheduleValue → Option SumVerdict
misfit_of t s = misfit_at t s (first_unlinked t s) (first_overfull t s)

-- links first, then bandwidth, then clashes, and then the counts of the last bags
abbrev pub sum_judged : TopologyValue → ScheduleValue → Bags → Option Hop → Option (ℕ × ℕ) → Option (ℕ × ℕ × ℕ) → Option (ℕ × ℕ × ℕ) → SumVerdict
sum_judged t s last (Some h) over clash uneven = NoLink h
sum_judged t s last None (Some turn) clash uneven = Overfull turn.0 turn.1 (load (group_at t turn.1) turn.0 s.sends)
sum_judged t s last None None (Some clash) uneven = Clash clash.1 clash.2 clash.0
sum_judged t s last None None None uneven = counts_judged last uneven

-- the bags after the last step, where every step adds
abbrev pub last_bags : TopologyValue → ScheduleValue → Bags
last_bags t s = bags_after (contributions t.nodes) s.sends (length s.rounds)

-- where every step adds, nothing clashes
abbrev pub sum_verdict_of : TopologyValue → PlacementValue → ScheduleValue → SumVerdict
sum_verdict_of t demand s =
    let last = last_bags t s in
    sum_judged t s last (first_unlinked t s) (first_overfull t s) None (first_uneven last t.nodes demand.pairs)
