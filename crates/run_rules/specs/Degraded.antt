-- What is owed for a report after a fault: its search done anew over the links that are left, where what was refuted stays refuted. This project's own.
use Rattle.std.specs.{Prelude.{◌≡◌, false, not, ℕ, List, [], ◌∷◌, ◌++◌, filter, map, All, codes}, List.flat_map}
use Rattle.outer_ports.specs.declared.part.Part.TheVariants.{Whole}
use Rattle.text_lines.specs.Text.{text_of}
use Rattle.candidate_order.specs.{declared.candidate.Candidate.Candidate, Frontiers.FrontierValue}
use Rattle.topology_text.specs.{Value.NamedTopologyValue, Spelling.lines_of}
use Rattle.report_form.specs.{Reports.{WordsValue, ReportValue, question_of}, Spelling.{candidate_words, part_words, point_lines, refuted_words, synth_words, unknown_words}}
use Rattle.candidate_formula.specs.Pruned.{is_cut_away}
use Rattle.engine_search.specs.Found.{IsFound}
use Rattle.link_faults.specs.{Narrowed.narrowed, Carrying.is_carried}
use Rattle.run_rules.specs.{declared.status.Status.{Status, TheVariants.Done}, Said.Says}

-- ---- the text

-- the topology after the fault; its names and its pattern stay
abbrev pub left_topology : NamedTopologyValue → ℕ → ℕ → NamedTopologyValue
left_topology t group width = record { names = t.names; topology = narrowed t.topology group width; custom = t.custom }

-- the candidates that a report calls refuted
abbrev pub old_refuted : ReportValue → List Candidate
old_refuted r = flat_map (λ x. x.1.refuted) r.frontiers

-- the words, what is left of the topology, and the frontier; a refuted candidate that an old one carries has a line of its own
unfoldable pub degraded_text : WordsValue → NamedTopologyValue → List Candidate → FrontierValue → List ℕ
degraded_text w t old f =
    text_of ((codes "degraded" ∷ codes "1" ∷ []) ∷ synth_words t.names w
    ∷ (lines_of t ++ (part_words Whole ∷ (flat_map (point_lines t.names) f.points
    ++ (map (λ x. codes "carried" ∷ candidate_words x) (filter (is_carried old) f.refuted) ++ (map refuted_words (filter (λ x. not (is_carried old x)) f.refuted) ++ (map unknown_words f.unknown ++ (codes "end" ∷ []) ∷ [])))))))

-- ---- what is owed

-- the frontier is what a search over the links that are left finds; what an old refuted candidate carries, or the words ask to be cut away, is refuted; and the text has it
pub record IsNewSearch (r : ReportValue) (group width : ℕ) (status : Status) (text : List ℕ) : Type 0 where
  pub frontier : FrontierValue
  pub found : IsFound (question_of r.words (left_topology r.topology group width) Whole) frontier
  pub points : All (λ p. is_carried (old_refuted r) p.candidate ≡ false) frontier.points
  pub unknown : All (λ u. is_carried (old_refuted r) u.candidate ≡ false) frontier.unknown
  pub uncut : All (λ u. is_cut_away (question_of r.words (left_topology r.topology group width) Whole) u.candidate ≡ false) frontier.unknown
  pub says : Says Done (degraded_text r.words (left_topology r.topology group width) (old_refuted r) frontier) status text
