-- What the clauses of arrivals and sends say, as facts of two tables: a node has a chunk after a step; a chunk is sent over a link at a step.
use Rattle.std.specs.{Prelude.{◌≡◌, ℕ, ◌-◌, ◌<◌, ◌≤◌, Bool, true, false, length, count_by, slice_index_or}, List.list_any}
use Rattle.schedule.specs.{Sends.IsStep, Placed.{PlacementValue, holds}}
use Rattle.send_encoding.specs.Variables.{SendMapValue, links_into}

-- a link of the map, with its number
pub record IsLinkOf (m : SendMapValue) (z : ℕ × (ℕ × ℕ)) : Type 0 where
  pub number : z.0 < length m.links
  pub from : z.1.0 < m.nodes
  pub to : z.1.1 < m.nodes
  pub is : z.1 ≡ slice_index_or m.links z.0 (0, 0)

abbrev pub JoinsNodes : SendMapValue → ℕ × ℕ → Type 0
JoinsNodes m link = (link.0 < m.nodes) × (link.1 < m.nodes)

pub record Moves (m : SendMapValue) (pre post : PlacementValue) (a x : ℕ → ℕ → ℕ → Bool) : Type 0 where
  pub starts : (c n : ℕ) → c < m.chunks → n < m.nodes → a c n 0 ≡ holds pre (c, n)
  pub keeps : (c n s : ℕ) → c < m.chunks → n < m.nodes → IsStep m.steps s → a c n (s - 1) ≡ true → a c n s ≡ true
  pub ends : (c n : ℕ) → c < m.chunks → n < m.nodes → holds post (c, n) ≡ true → a c n m.steps ≡ true
  pub sender : (c s : ℕ) (z : ℕ × (ℕ × ℕ)) → c < m.chunks → IsLinkOf m z → IsStep m.steps s → x c z.0 s ≡ true → a c z.1.0 (s - 1) ≡ true
  pub receiver : (c s : ℕ) (z : ℕ × (ℕ × ℕ)) → c < m.chunks → IsLinkOf m z → IsStep m.steps s → x c z.0 s ≡ true → a c z.1.1 (s - 1) ≡ false
  pub brings : (c s : ℕ) (z : ℕ × (ℕ × ℕ)) → c < m.chunks → IsLinkOf m z → IsStep m.steps s → x c z.0 s ≡ true → a c z.1.1 s ≡ true
  pub sent : (c n s : ℕ) → c < m.chunks → n < m.nodes → IsStep m.steps s → a c n s ≡ true → a c n (s - 1) ≡ false → list_any (λ z. x c z.0 s) (links_into m n) ≡ true
  pub once : (c n s : ℕ) → c < m.chunks → n < m.nodes → IsStep m.steps s → count_by (λ z. x c z.0 s) (links_into m n) ≤ 1
