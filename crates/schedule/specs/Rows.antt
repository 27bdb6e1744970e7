-- Small topologies, placements and schedules whose runs and verdicts are known.
use Rattle.std.specs.Prelude.{ℕ, ◌==◌, true, List, [], ◌∷◌}
use Rattle.schedule.specs.{declared.{hop.Hop.Hop, verdict.Verdict.Verdict}, Links.{GroupValue, TopologyValue}, Sends.ScheduleValue, Judging.verdict_of, Placed.{PlacementValue, placed}}

-- a group of one link
abbrev pub only : ℕ → ℕ → ℕ → GroupValue
only from to width = record { links = (from, to) ∷ []; width = width }

-- a node without links
abbrev pub one_node : TopologyValue
one_node = record { nodes = 1; groups = [] }

-- nodes in a row, neighbours joined both ways, one chunk a round
abbrev pub line_of_2 : TopologyValue
line_of_2 = record { nodes = 2; groups = only 0 1 1 ∷ only 1 0 1 ∷ [] }

abbrev pub line_of_3 : TopologyValue
line_of_3 = record { nodes = 3; groups = only 0 1 1 ∷ only 1 0 1 ∷ only 1 2 1 ∷ only 2 1 1 ∷ [] }

-- two nodes with the link back alone
abbrev pub back_of_2 : TopologyValue
back_of_2 = record { nodes = 2; groups = only 1 0 1 ∷ [] }

-- the link from 0 to 1 in two groups, the second narrower
abbrev pub twice_grouped : TopologyValue
twice_grouped = record { nodes = 2; groups = only 0 1 2 ∷ only 0 1 1 ∷ [] }

-- four nodes in a ring, neighbours joined both ways, one chunk a round
abbrev pub ring_of_4 : TopologyValue
ring_of_4 = record {
  nodes = 4;
  groups = only 0 1 1 ∷ only 0 3 1 ∷ only 1 0 1 ∷ only 1 2 1 ∷ only 2 1 1 ∷ only 2 3 1 ∷ only 3 0 1 ∷ only 3 2 1 ∷ [];
}

-- two nodes without a link
abbrev pub two_alone : TopologyValue
two_alone = record { nodes = 2; groups = [] }

-- node 0 has every chunk
abbrev pub at_root : ℕ → ℕ → PlacementValue
at_root chunks nodes = placed chunks nodes (λ pair. pair.1 == 0)

-- every node has every chunk
abbrev pub everywhere : ℕ → ℕ → PlacementValue
everywhere chunks nodes = placed chunks nodes (λ pair. true)

abbrev pub send : ℕ → ℕ → ℕ → ℕ → Hop
send chunk from to step = record { chunk = chunk; from = from; to = to; step = step }

abbrev pub plan : List ℕ → List Hop → ScheduleValue
plan rounds sends = record { rounds = rounds; sends = sends }

-- the verdict on so many chunks of node 0 that go to every node
abbrev pub broadcast : TopologyValue → ℕ → List ℕ → List Hop → Verdict
broadcast t chunks rounds sends = verdict_of t (at_root chunks t.nodes) (everywhere chunks t.nodes) (plan rounds sends)

-- on the ring of 4, two chunks go from node 0 to every node, opposite ways
abbrev pub ring_broadcast : ScheduleValue
ring_broadcast = plan (1 ∷ 1 ∷ []) (send 0 0 1 1 ∷ send 1 0 3 1 ∷ send 0 0 3 2 ∷ send 0 1 2 2 ∷ send 1 0 1 2 ∷ send 1 3 2 2 ∷ [])

-- on the ring of 4, two chunks are added up at node 0
abbrev pub ring_reduce : ScheduleValue
ring_reduce = plan (1 ∷ 1 ∷ []) (send 0 2 1 1 ∷ send 0 3 0 1 ∷ send 1 1 0 1 ∷ send 1 2 3 1 ∷ send 0 1 0 2 ∷ send 1 3 0 2 ∷ [])

-- each of two nodes adds up one of two chunks, and then sends it to the other
abbrev pub pair_allreduce : ScheduleValue
pair_allreduce = plan (1 ∷ 1 ∷ []) (send 0 1 0 1 ∷ send 1 0 1 1 ∷ send 0 0 1 2 ∷ send 1 1 0 2 ∷ [])

-- node 0 gets a chunk from both its neighbours in one step
abbrev pub met_from_both : ScheduleValue
met_from_both = plan (1 ∷ []) (send 0 1 0 1 ∷ send 0 3 0 1 ∷ [])
