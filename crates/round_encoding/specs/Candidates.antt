-- Candidates: how many steps and rounds a schedule for an instance is to have, and what solves one.
use Rattle.std.specs.Prelude.{◌≡◌, ℕ, ◌+◌, ◌-◌, ◌*◌, ◌<◌, ◌≤◌, length, sum_by}
use Rattle.schedule.specs.{Links.{GroupValue, TopologyValue, IsTopology, usable_links}, Placed.{PlacementValue, IsPlacement}, Solving.{Solves, Tight}, Sends.{ScheduleValue, IsSchedule, IsInRange}}
use Rattle.round_encoding.specs.{declared.encoding.Encoding.Encoding, Rounding.encoding_of}

-- placements of the topology's nodes and 1 to 256 chunks, 1 to 16 steps, and at most 8 rounds more than steps
pub record IsCandidate (t : TopologyValue) (pre post : PlacementValue) (steps rounds : ℕ) : Type 0 where
  pub topology : IsTopology t
  pub wanted : IsPlacement post
  pub nodes : pre.nodes ≡ t.nodes
  pub nodes_wanted : post.nodes ≡ pre.nodes
  pub chunks : 0 < pre.chunks
  pub few_chunks : pre.chunks ≤ 256
  pub chunks_wanted : post.chunks ≡ pre.chunks
  pub some : 0 < steps
  pub few : steps ≤ 16
  pub least : steps ≤ rounds
  pub most : rounds ≤ steps + 8

-- a schedule that solves the candidate and wastes no send
pub record IsTightSolution (t : TopologyValue) (pre post : PlacementValue) (s : ScheduleValue) (steps rounds : ℕ) : Type 0 where
  pub valid : IsSchedule s
  pub in_range : IsInRange pre.chunks pre.nodes s
  pub solves : Solves t pre post s steps rounds
  pub tight : Tight pre s

-- ---- how large its formula is (this project's own measure)

abbrev pub size_limit : ℕ
size_limit = 2000000

-- the variables of a group's counters, one counter a step
abbrev pub group_size : ℕ → ℕ → ℕ → GroupValue → ℕ
group_size chunks steps extra group = length group.links * chunks * steps * (group.width * (1 + extra) + 1)

-- a variable for each chunk, usable link and step, and those of the groups
abbrev pub size_of : TopologyValue → PlacementValue → ℕ → ℕ → ℕ
size_of t pre steps rounds = pre.chunks * length (usable_links t) * steps + sum_by (group_size pre.chunks steps (rounds - steps)) t.groups

-- ---- what encodes it

-- the encoding is that of the candidate
pub record IsEncodingOf (t : TopologyValue) (pre post : PlacementValue) (steps rounds : ℕ) (e : Encoding) : Type 0 where
  pub candidate : IsCandidate t pre post steps rounds
  pub is : e ≡ encoding_of t pre post steps rounds

-- it is that of some candidate
pub record IsEncoding (e : Encoding) : Type 0 where
  pub topology : TopologyValue
  pub pre : PlacementValue
  pub post : PlacementValue
  pub steps : ℕ
  pub rounds : ℕ
  pub encodes : IsEncodingOf topology pre post steps rounds e
