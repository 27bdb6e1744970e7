-- What an audit asks of a part.
use Rattle.std.specs.Prelude.{◌≡◌, ◌≢◌, ◌≤◌}
use Rattle.schedule.specs.Links.{TopologyValue, IsTopology}
use Rattle.collective_spec.specs.{declared.kind.Kind.TheVariants.Allreduce, Collectives.{IsSpec, kind_in}}
use Rattle.candidate_order.specs.{Ranges.IsLimits, Frontiers.QuestionValue}
use Rattle.round_encoding.specs.Candidates.{size_limit}
use Rattle.node_cuts.specs.{Cutting.sets_for, Tables.{TableValue, IsTableOf}}
use Rattle.candidate_formula.specs.{Formulas.searched_on, Sizes.size_of}

-- what is asked keeps its rules, is not joined of two others, and is small enough to have formulas
pub record IsAuditable (q : QuestionValue) : Type 0 where
  pub topology : IsTopology q.topology
  pub spec : IsSpec q.topology.nodes q.spec
  pub single : kind_in q.spec ≢ Allreduce
  pub limits : IsLimits q.limits
  pub size : size_of q ≤ size_limit

-- what is asked, with the links that are searched, and with the table of the cuts over these links
pub record IsPrepared (q : QuestionValue) (searched : TopologyValue) (table : TableValue) : Type 0 where
  pub question : IsAuditable q
  pub links : searched ≡ searched_on q
  pub cuts : IsTableOf (sets_for q.limits.pruning) searched q.spec table
