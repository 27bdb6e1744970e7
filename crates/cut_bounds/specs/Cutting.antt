-- Which candidates of a record a cut refutes, and which are left to an engine. This project's own.
use Rattle.std.specs.{Prelude.{not, List, filter}, List.filter_map}
use Rattle.candidate_order.specs.{declared.candidate.Candidate.Candidate, Frontiers.QuestionValue}
use Rattle.engine_rules.specs.Outcomes.{RecordValue}
use Rattle.node_cuts.specs.{declared.sets.Sets.Sets, Cuts.CutValue, Cutting.{is_cut, with_cut}}

-- the candidates of a record that one of the sets of nodes refutes, in order, each with its first cut
abbrev pub cuts_of : Sets → QuestionValue → RecordValue → List (Candidate × CutValue)
cuts_of sets q entries = filter_map (λ e. with_cut sets q e.0) entries

-- the entries of the others
abbrev pub uncut_entries : Sets → QuestionValue → RecordValue → RecordValue
uncut_entries sets q entries = filter (λ e. not (is_cut sets q e.0)) entries
