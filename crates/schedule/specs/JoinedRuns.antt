-- Runs that add in their first steps and copy in the later ones: an allreduce as a reducescatter and then an allgather (Cai et al., PPoPP 2021, allreduce; the rule for several senders is this project's own).
use Rattle.std.specs.{Prelude.{◌≡◌, ◌&&◌, ℕ, zero, suc, ◌+◌, ◌<◌, ◌≤◌, max, Bool, not, if◌then◌else◌, nat_le, nat_lt, List, length, map, filter, count_by, find, Option, None, Some, All}, List.{flat_map, range_with_len, reduce}}
use Rattle.schedule.specs.{declared.hop.Hop.Hop, Links.TopologyValue, Sends.ScheduleValue, Placed.all_pairs, Fitting.Fits, Summing.{goes_to, summed_step}, Bags.{Bag, Bags, is_empty, contributions, one_of_each}}

-- the nodes that send the chunk to the node in this step, and whose bag is not empty
abbrev pub filled_senders : List Hop → Bags → ℕ → ℕ × ℕ → List ℕ
filled_senders sends before step pair = map (λ h. h.from) (filter (λ h. goes_to step pair h && not (is_empty (before (h.chunk, h.from)))) sends)

-- the bag of this node, if there is one, in place of the own
abbrev pub replaced : Bags → ℕ × ℕ → Option ℕ → Bag
replaced before pair None = before pair
replaced before pair (Some from) = before (pair.0, from)

-- a step copies the bag of the greatest sender whose bag is not empty
abbrev pub copied_step : List Hop → Bags → ℕ → Bags
copied_step sends before step pair = replaced before pair (reduce max (filled_senders sends before step pair))

-- the steps up to `adding` add, and the later ones copy
abbrev pub joined_step : List Hop → ℕ → Bags → ℕ → Bags
joined_step sends adding before step = if nat_le step adding then summed_step sends before step else copied_step sends before step

-- the bags after so many steps
abbrev pub joined_after : Bags → ScheduleValue → ℕ → ℕ → Bags
joined_after start s adding zero = start
joined_after start s adding (suc n) = joined_step s.sends adding (joined_after start s adding n) (n + 1)

-- the bags after step 0, 1 and so on to the last
abbrev pub joined_run : Bags → ScheduleValue → ℕ → List Bags
joined_run start s adding = map (joined_after start s adding) (range_with_len 0 (length s.rounds + 1))

-- a step that copies brings a chunk to a node twice
pub record Clashes (s : ScheduleValue) (adding : ℕ) : Type 0 where
  pub step : ℕ
  pub chunk : ℕ
  pub node : ℕ
  pub copies : adding < step
  pub twice : 2 ≤ count_by (goes_to step (chunk, node)) s.sends

-- it fits, no step that copies brings a chunk to a node twice, and each chunk ends at each node with each node exactly once
pub record AllSummed (t : TopologyValue) (chunks : ℕ) (s : ScheduleValue) (adding : ℕ) : Type 0 where
  pub fits : Fits t s
  pub no_clash : Clashes s adding → ⊥
  pub sums : All (λ pair. joined_after (contributions t.nodes) s adding (length s.rounds) pair ≡ one_of_each t.nodes) (all_pairs chunks t.nodes)

-- a step, a chunk and a node: in this step, which copies, the chunk is brought to the node twice
abbrev pub is_clash : ScheduleValue → ℕ → ℕ × ℕ × ℕ → Bool
is_clash s adding turn = nat_lt adding turn.0 && nat_le 2 (count_by (goes_to turn.0 (turn.1, turn.2)) s.sends)

-- the first of them, by step, chunk and node
abbrev pub first_clash : ℕ → ℕ → ScheduleValue → ℕ → Option (ℕ × ℕ × ℕ)
first_clash chunks nodes s adding =
    find (is_clash s adding) (flat_map (λ step. map (λ pair. (step, pair.0, pair.1)) (all_pairs chunks nodes)) (range_with_len 1 (length s.rounds)))
