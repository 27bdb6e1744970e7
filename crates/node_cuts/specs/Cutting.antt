-- Which candidates a cut refutes. This project's own.
use Rattle.std.specs.{Prelude.{Bool, if◌then◌else◌, Option}, Option.{is_some, option_map}}
use Rattle.schedule.specs.Links.{TopologyValue}
use Rattle.collective_spec.specs.{declared.spec.Spec.Spec, Collectives.spec_instance}
use Rattle.candidate_order.specs.{declared.{candidate.Candidate.Candidate, pruning.Pruning.Pruning}, Frontiers.QuestionValue}
use Rattle.node_cuts.specs.{declared.sets.Sets.{Sets, TheVariants.{Nothing, All}}, Cuts.{CutValue, first_cut_of}}

-- a search that may leave out what cuts refute looks at every set, and another at none
abbrev pub sets_for : Pruning → Sets
sets_for p = if p.cuts then All else Nothing

-- the first cut of a candidate, if one of the sets of nodes refutes it
abbrev pub cut_in : Sets → TopologyValue → Spec → Candidate → Option CutValue
cut_in sets t spec x = let i = spec_instance spec t.nodes x.c in first_cut_of sets t i.pre i.post x.r

abbrev pub cut_for : Sets → QuestionValue → Candidate → Option CutValue
cut_for sets q x = cut_in sets q.topology q.spec x

abbrev pub is_cut : Sets → QuestionValue → Candidate → Bool
is_cut sets q x = is_some (cut_for sets q x)

-- the candidate with its first cut
abbrev pub with_cut : Sets → QuestionValue → Candidate → Option (Candidate × CutValue)
with_cut sets q x = option_map (λ cut. (x, cut)) (cut_for sets q x)
