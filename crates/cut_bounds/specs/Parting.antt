-- The refuted candidates of a frontier, parted by whether a cut refutes them. This project's own.
use Rattle.std.specs.{Prelude.{not, List, filter}, List.filter_map}
use Rattle.candidate_order.specs.{declared.candidate.Candidate.Candidate, Frontiers.{QuestionValue, FrontierValue}}
use Rattle.node_cuts.specs.{declared.sets.Sets.Sets, Cuts.CutValue, Cutting.{is_cut, with_cut}}

-- those that one of the sets of nodes refutes, in order, each with its first cut
abbrev pub cuts_among : Sets → QuestionValue → List Candidate → List (Candidate × CutValue)
cuts_among sets q xs = filter_map (with_cut sets q) xs

-- the others
abbrev pub uncut_among : Sets → QuestionValue → List Candidate → List Candidate
uncut_among sets q xs = filter (λ x. not (is_cut sets q x)) xs

-- the frontier without the refuted candidates that one of the sets refutes
abbrev pub without_cuts : Sets → QuestionValue → FrontierValue → FrontierValue
without_cuts sets q f = record { points = f.points; refuted = uncut_among sets q f.refuted; unknown = f.unknown }
