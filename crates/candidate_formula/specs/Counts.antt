-- The chunk counts of a search (Cai et al., PPoPP 2021, Pareto-optimal schedules).
use Rattle.std.specs.{Prelude.{ℕ, List, filter}, List.range_with_len}
use Rattle.collective_spec.specs.{declared.kind.Kind.Kind, Kinds.allows, Collectives.kind_in}
use Rattle.candidate_order.specs.Frontiers.{QuestionValue}

-- the counts up to a greatest one that a kind allows on so many nodes
abbrev pub allowed_up_to : ℕ → Kind → ℕ → List ℕ
allowed_up_to greatest kind nodes = filter (allows kind nodes) (range_with_len 1 greatest)

-- the chunk counts that the limits and the collective allow
abbrev pub chunk_counts : QuestionValue → List ℕ
chunk_counts q = allowed_up_to q.limits.max_c (kind_in q.spec) q.topology.nodes
