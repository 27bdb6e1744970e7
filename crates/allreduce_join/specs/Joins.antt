-- An allreduce as a reducescatter and then an allgather (Cai et al., PPoPP 2021, allreduce). That a join keeps the chunk count is this project's own way of counting.
use Rattle.std.specs.{Prelude.{◌≡◌, ◌==◌, ℕ, ◌+◌, ◌≤◌, List, ◌++◌, length, map, filter, sum, All, Contains}, List.flat_map}
use Rattle.schedule.specs.{declared.hop.Hop.Hop, Links.TopologyValue, Sends.ScheduleValue, JoinedRuns.AllSummed}
use Rattle.collective_spec.specs.declared.kind.Kind.TheVariants as kind
use Rattle.collective_spec.specs.Collectives.{chunks_of}
use Rattle.candidate_order.specs.{Frontiers.PointValue}
use Rattle.candidate_order.specs.declared.mark.Mark.TheVariants as mark

-- the point has the steps and the rounds of its schedule, and at most 8 steps
pub record IsJoinable (p : PointValue) : Type 0 where
  pub steps : length p.schedule.rounds ≡ p.candidate.s
  pub rounds : sum p.schedule.rounds ≡ p.candidate.r
  pub few : p.candidate.s ≤ 8

-- one schedule of so many steps, and then the other, its sends so many steps later
abbrev pub one_after : ℕ → ScheduleValue → ScheduleValue → ScheduleValue
one_after steps first second = record { rounds = first.rounds ++ second.rounds; sends = first.sends ++ map (λ (h : Hop). record h { step = h.step + steps }) second.sends }

-- the first point's schedule, which adds, and then the second's, which copies, with the steps and the rounds of both and the chunk count of the first
abbrev pub join_of : PointValue → PointValue → PointValue
join_of p q = record {
  candidate = record { s = p.candidate.s + q.candidate.s; r = p.candidate.r + q.candidate.r; c = p.candidate.c };
  schedule = one_after p.candidate.s p.schedule q.schedule;
  mark = mark.Joined p.candidate.s;
}

-- each point of the first list with each of the second that has its chunk count
abbrev pub pairs_of : List PointValue → List PointValue → List (PointValue × PointValue)
pairs_of reduce gather = flat_map (λ p. map (λ q. (p, q)) (filter (λ q. q.candidate.c == p.candidate.c) gather)) reduce

-- on this topology the join of the two sums every chunk of an allreduce at every node
abbrev pub IsJoin : TopologyValue → PointValue × PointValue → Type 0
IsJoin t pair = AllSummed t (chunks_of kind.Allreduce t.nodes pair.0.candidate.c) (join_of pair.0 pair.1).schedule pair.0.candidate.s

-- the joined points are the joins of all pairs of one chunk count, in their order, and each is a join on this topology
pub record Joins (t : TopologyValue) (reduce gather joined : List PointValue) : Type 0 where
  pub in_order : joined ≡ map (λ pair. join_of pair.0 pair.1) (pairs_of reduce gather)
  pub summed : All (IsJoin t) (pairs_of reduce gather)

-- the point is the join of two points of these lists that have one chunk count, and it is a join on this topology
pub record IsJoinedPoint (t : TopologyValue) (reduce gather : List PointValue) (p : PointValue) : Type 0 where
  pub first : PointValue
  pub second : PointValue
  pub of_reduce : Contains reduce first
  pub of_gather : Contains gather second
  pub same_count : second.candidate.c ≡ first.candidate.c
  pub joined : p ≡ join_of first second
  pub summed : AllSummed t (chunks_of kind.Allreduce t.nodes p.candidate.c) p.schedule first.candidate.s
