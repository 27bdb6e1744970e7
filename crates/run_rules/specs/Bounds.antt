-- What is owed for a search that tells which cut refutes a candidate, and how far any schedule can go. This project's own.
use Rattle.std.specs.{Prelude.{◌≡◌, ℕ, false, IsTrue, List, [], ◌∷◌, ◌++◌, length, map, filter, All, codes, decimal}, List.{flat_map, range_with_len}}
use Rattle.outer_ports.specs.declared.part.Part.TheVariants.{Whole}
use Rattle.text_lines.specs.Text.{text_of}
use Rattle.candidate_order.specs.Frontiers.{FrontierValue}
use Rattle.topology_text.specs.{Value.NamedTopologyValue, Spelling.name_at}
use Rattle.report_form.specs.{Reports.{WordsValue, question_of, whole_report}, Spelling.{candidate_words, part_words, point_lines, refuted_words, synth_words, unknown_words}}
use Rattle.frontier_audit.specs.OwedFiles.{BreaksOff, Proves}
use Rattle.node_cuts.specs.{declared.{floor.Floor.Floor, sets.Sets.Sets}, Floors.floor_of, Sides.has_bit, Cutting.is_cut}
use Rattle.cut_bounds.specs.Parting.{cuts_among, uncut_among, without_cuts}
use Rattle.candidate_formula.specs.Searched.{searched_question}
use Rattle.engine_search.specs.Found.{IsFound}
use Rattle.run_rules.specs.{declared.status.Status.{Status, TheVariants.Done}, Said.{FilesValue, Says}}

-- ---- the text

-- the names of the nodes whose bits are set
abbrev pub names_of_set : List (List ℕ) → ℕ → List (List ℕ)
names_of_set names nodes = map (name_at names) (filter (has_bit nodes) (range_with_len 0 (length names)))

abbrev pub floor_words : List (List ℕ) → Floor → List (List ℕ)
floor_words names floor = codes "floor" ∷ decimal floor.above ∷ decimal floor.below ∷ names_of_set names floor.nodes

-- a candidate that is cut stands with the nodes of its first cut; the cuts and the floor are those of what is searched, by these sets of nodes: of a reduction, over the links turned round
abbrev pub bound_lines : WordsValue → NamedTopologyValue → Sets → FrontierValue → List (List (List ℕ))
bound_lines w t sets f =
    let q = searched_question (question_of w t Whole) in
    (codes "bound" ∷ codes "1" ∷ []) ∷ synth_words t.names w ∷ floor_words t.names (floor_of sets q.topology q.spec) ∷ part_words Whole
    ∷ (flat_map (point_lines t.names) f.points ++ (map (λ x. codes "cut" ∷ candidate_words x.0 ++ names_of_set t.names x.1.nodes) (cuts_among sets q f.refuted) ++ (map refuted_words (uncut_among sets q f.refuted) ++ (map unknown_words f.unknown ++ (codes "end" ∷ []) ∷ []))))

unfoldable pub bound_text : WordsValue → NamedTopologyValue → Sets → FrontierValue → List ℕ
bound_text w t sets f = text_of (bound_lines w t sets f)

-- ---- what is owed

-- the frontier is what a search finds; a candidate that was tried is refuted where one of these sets refutes it; the text has the frontier, with each candidate that such a set refutes in a line of its own; the files prove the others, and are begun as those of any search
pub record IsBoundAnswer (w : WordsValue) (t : NamedTopologyValue) (sets : Sets) (files : FilesValue) (status : Status) (text : List ℕ) : Type 0 where
  pub frontier : FrontierValue
  pub found : IsFound (question_of w t Whole) frontier
  pub points : All (λ p. is_cut sets (searched_question (question_of w t Whole)) p.candidate ≡ false) frontier.points
  pub unknown : All (λ u. is_cut sets (searched_question (question_of w t Whole)) u.candidate ≡ false) frontier.unknown
  pub says : Says Done (bound_text w t sets frontier) status text
  pub proves : IsTrue files.told → Proves (whole_report w t (without_cuts sets (searched_question (question_of w t Whole)) frontier)) files.before files.after
  pub begun : IsTrue files.told → BreaksOff w t files.before files.after
