-- Questions whose candidates have formulas of a bounded size.
use Rattle.std.specs.Prelude.{◌≡◌, ◌≤◌, false}
use Rattle.schedule.specs.Links.{TopologyValue, IsTopology}
use Rattle.collective_spec.specs.{declared.spec.Spec.Spec, Collectives.{IsSpec, adds_up}}
use Rattle.candidate_order.specs.{declared.candidate.Candidate.Candidate, Ranges.{LimitsValue, IsLimits}, Frontiers.{QuestionValue, IsWithin}, Copied.copied_spec}
use Rattle.round_encoding.specs.Candidates.{size_limit}
use Rattle.candidate_formula.specs.Sizes.{size_of}

-- what is asked keeps its rules, is copied, and is small enough to be sought
pub record IsSmallQuestion (q : QuestionValue) : Type 0 where
  pub topology : IsTopology q.topology
  pub spec : IsSpec q.topology.nodes q.spec
  pub copies : adds_up q.spec ≡ false
  pub limits : IsLimits q.limits
  pub size : size_of q ≤ size_limit

-- what copies over these very links: the collective itself, or that of which a reduction is the inverse
abbrev pub copying_question : TopologyValue → Spec → LimitsValue → QuestionValue
copying_question t s limits = record { topology = t; spec = copied_spec s; limits = limits }

-- the candidate is within limits under which that question is small
pub record IsSought (t : TopologyValue) (s : Spec) (x : Candidate) : Type 0 where
  pub limits : LimitsValue
  pub small : IsSmallQuestion (copying_question t s limits)
  pub within : IsWithin (copying_question t s limits) x
