-- The two questions whose frontiers an allreduce joins (Cai et al., PPoPP 2021, allreduce).
use Rattle.std.specs.Prelude.{ℕ}
use Rattle.schedule.specs.Links.{TopologyValue}
use Rattle.collective_spec.specs.declared.kind.Kind.TheVariants as kind
use Rattle.collective_spec.specs.declared.spec.Spec.TheVariants as spec
use Rattle.candidate_order.specs.{Ranges.LimitsValue, Frontiers.QuestionValue}

-- each sum at one node; the root counts for nothing
abbrev pub reduce_part : ℕ → TopologyValue → LimitsValue → QuestionValue
reduce_part root t limits = record { topology = t; spec = spec.Standard (record { kind = kind.Reducescatter; root = root }); limits = limits }

-- from that node to every other
abbrev pub gather_part : ℕ → TopologyValue → LimitsValue → QuestionValue
gather_part root t limits = record { topology = t; spec = spec.Standard (record { kind = kind.Allgather; root = root }); limits = limits }
