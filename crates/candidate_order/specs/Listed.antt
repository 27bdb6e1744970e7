-- Which candidates a search tries (Cai et al., PPoPP 2021, k-synchronous schedules).
use Rattle.std.specs.Prelude.{◌≡◌, ℕ, ◌+◌, ◌≤◌, ◌↔◌, List, Contains, IsTrue}
use Rattle.candidate_order.specs.{declared.candidate.Candidate.Candidate, Ranges.LimitsValue}
use Rattle.collective_spec.specs.{declared.kind.Kind.Kind, Kinds.allows}

-- the candidate is within the limits, for a collective of that kind on so many nodes
pub record Within (limits : LimitsValue) (kind : Kind) (nodes : ℕ) (x : Candidate) : Type 0 where
  pub some_steps : 1 ≤ x.s
  pub steps : x.s ≤ limits.max_s
  pub all_rounds : x.s ≤ x.r
  pub rounds : x.r ≤ x.s + limits.k
  pub chunks : x.c ≤ limits.max_c
  pub allowed : IsTrue (allows kind nodes x.c)

-- the candidate has that many steps, a number of rounds within k, and one of the chunk counts
pub record IsListed (k step : ℕ) (counts : List ℕ) (x : Candidate) : Type 0 where
  pub steps : x.s ≡ step
  pub all_rounds : step ≤ x.r
  pub rounds : x.r ≤ step + k
  pub chunks : Contains counts x.c

-- the counts are just those that the limits and the kind allow
abbrev pub AreAllowed : LimitsValue → Kind → ℕ → List ℕ → Type 0
AreAllowed limits kind nodes counts = (c : ℕ) → Contains counts c ↔ ((c ≤ limits.max_c) × IsTrue (allows kind nodes c))

-- a chunk count within the limits
abbrev pub IsCount : ℕ → ℕ → Type 0
IsCount greatest c = (1 ≤ c) × (c ≤ greatest)

abbrev pub candidate_at : ℕ → ℕ × ℕ → Candidate
candidate_at step pair = record { s = step; r = pair.0; c = pair.1 }
