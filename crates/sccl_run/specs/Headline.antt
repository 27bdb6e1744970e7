-- The headline: what a reader may believe of what was printed. Nothing here speaks of ports, files, formulas, proofs, or of how a text is read.
use Rattle.std.specs.Prelude.{◌≡◌, ◌≢◌, ◌⊎◌, ℕ, ◌*◌, ◌≤◌, Bool, true, false, List, [], ◌∷◌, ◌++◌, drop, length, All, AllPairs, Contains, codes, decimal}
use Rattle.outer_ports.specs.declared.part.Part.TheVariants.{Whole}
use Rattle.schedule.specs.Sends.{ScheduleValue}
use Rattle.collective_spec.specs.{declared.kind.Kind.TheVariants.Allreduce, Collectives.{adds_up, kind_in, fits_kind}, Kinds.allows}
use Rattle.candidate_order.specs.{declared.candidate.Candidate.Candidate, Ranges.unpruned, Costs.{NoWorse, Before}, Frontiers.{QuestionValue, PointValue, FrontierValue, solved, given_up, Achieves, IsWithin, RightFrontier, WastesNothing}}
use Rattle.topology_text.specs.{Value.{NamedTopologyValue, IsNamed}, Spelling.spelling}
use Rattle.report_form.specs.{Reports.{WordsValue, ReportValue, IsWords, IsReport, question_of}, Spelling.{report_text, synth_words, word_if}}
use Rattle.node_cuts.specs.declared.floor.Floor.{Floor}
use Rattle.frontier_audit.specs.Rights.{IsRight}
use Rattle.run_rules.specs.{Tasks.given_sets, Bounds.{bound_lines, bound_text, floor_words}, Orders.ordered_text, Degraded.{degraded_text, left_topology, old_refuted}}

-- ---- what is asked for

-- this command, each key of the search with its value, and a last word where it is said
abbrev pub search_words : List ℕ → List (List ℕ) → WordsValue → List ℕ → Bool → List (List ℕ)
search_words verb names w last said = verb ∷ (drop 1 (synth_words names w) ++ word_if last said)

-- the words are those of a search by this command, and the bytes are the spelling of its topology
pub record Asks (verb last : List ℕ) (said : Bool) (words : List (List ℕ)) (bytes : List ℕ) (w : WordsValue) (t : NamedTopologyValue) : Type 0 where
  pub topology : IsNamed t
  pub limits : IsWords (length t.names) w
  pub fits : fits_kind w.collective.kind t.custom ≡ true
  pub words_are : words ≡ search_words verb t.names w last said
  pub bytes_are : bytes ≡ spelling t

-- `synth`, which keeps the proofs that stand there or not
abbrev pub AsksSynth : Bool → List (List ℕ) → List ℕ → WordsValue → NamedTopologyValue → Type 0
AsksSynth kept = Asks (codes "synth") (codes "kept=yes") kept

-- the same of a command that searches for no allreduce and leaves nothing out
pub record AsksAlone (verb last : List ℕ) (said : Bool) (words : List (List ℕ)) (bytes : List ℕ) (w : WordsValue) (t : NamedTopologyValue) : Type 0 where
  pub asks : Asks verb last said words bytes w t
  pub single : w.collective.kind ≢ Allreduce
  pub unpruned : w.limits.pruning ≡ unpruned

-- `bound`, by all sets of nodes or the listed ones
abbrev pub AsksBound : Bool → List (List ℕ) → List ℕ → WordsValue → NamedTopologyValue → Type 0
AsksBound all_sets = AsksAlone (codes "bound") (codes "sets=all") all_sets

abbrev pub AsksOrdered : List (List ℕ) → List ℕ → WordsValue → NamedTopologyValue → Type 0
AsksOrdered = AsksAlone (codes "ordered") [] false

-- `degrade`: the words say which width is left to which group, and the bytes are the text of a report
pub record AsksDegraded (words : List (List ℕ)) (bytes : List ℕ) (r : ReportValue) (group width : ℕ) : Type 0 where
  pub valid : IsReport r
  pub group_fits : group ≤ 255
  pub width_fits : width ≤ 16
  pub words_are : words ≡ codes "degrade" ∷ (codes "group=" ++ decimal group) ∷ (codes "width=" ++ decimal width) ∷ []
  pub bytes_are : bytes ≡ report_text r

-- ---- what is printed

-- a right frontier as a search prints it: its points in order, no candidate in two lists, what it calls refuted within the limits, no point no worse than another, and no schedule that wastes a send
pub record SearchedFrontier (q : QuestionValue) (f : FrontierValue) : Type 0 where
  pub right : RightFrontier q f
  pub within : All (IsWithin q) f.refuted
  pub ascend : AllPairs Before (solved f)
  pub points_apart : All (λ x. (Contains f.refuted x ⊎ Contains (given_up f) x) → ⊥) (solved f)
  pub refuted_apart : All (λ x. Contains (given_up f) x → ⊥) f.refuted
  pub apart : (a b : PointValue) → Contains f.points a → Contains f.points b → NoWorse a.candidate b.candidate → a ≡ b
  pub tight : All (WastesNothing (adds_up q.spec) q) f.points

-- what is appended is the text of one report of what was asked, it is right, and each of its frontiers is as a search prints it
pub record Prints (w : WordsValue) (t : NamedTopologyValue) (before now : List ℕ) : Type 0 where
  pub report : ReportValue
  pub words : report.words ≡ w
  pub topology : report.topology ≡ t
  pub text : now ≡ before ++ report_text report
  pub right : IsRight report
  pub searched : All (λ x. SearchedFrontier (question_of report.words report.topology x.0) x.1) report.frontiers

-- the bytes are the text of one report, and it is right
pub record Verifies (bytes : List ℕ) : Type 0 where
  pub report : ReportValue
  pub text : bytes ≡ report_text report
  pub right : IsRight report

-- no schedule, of however many steps and rounds, has fewer rounds for its chunk count than the fraction says
abbrev pub IsFloor : QuestionValue → Floor → Type 0
IsFloor q floor = (x : Candidate) (s : ScheduleValue) → allows (kind_in q.spec) q.topology.nodes x.c ≡ true → Achieves (adds_up q.spec) q x s → floor.above * x.c ≤ x.r * floor.below

-- what is appended is the text of such a frontier, and of a floor that holds
pub record PrintsBound (all_sets : Bool) (w : WordsValue) (t : NamedTopologyValue) (before now : List ℕ) : Type 0 where
  pub frontier : FrontierValue
  pub floor : Floor
  pub text : now ≡ before ++ bound_text w t (given_sets all_sets) frontier
  pub told : Contains (bound_lines w t (given_sets all_sets) frontier) (floor_words t.names floor)
  pub searched : SearchedFrontier (question_of w t Whole) frontier
  pub holds : IsFloor (question_of w t Whole) floor

-- what is appended is the text of such a frontier; so its refuted candidates have no schedule at all, in order or not
pub record PrintsOrdered (w : WordsValue) (t : NamedTopologyValue) (before now : List ℕ) : Type 0 where
  pub frontier : FrontierValue
  pub text : now ≡ before ++ ordered_text w t frontier
  pub searched : SearchedFrontier (question_of w t Whole) frontier

-- the report that was read is right, and what is appended is the text of such a frontier over the links that are left
pub record PrintsDegraded (r : ReportValue) (group width : ℕ) (before now : List ℕ) : Type 0 where
  pub old : IsRight r
  pub frontier : FrontierValue
  pub text : now ≡ before ++ degraded_text r.words (left_topology r.topology group width) (old_refuted r) frontier
  pub searched : SearchedFrontier (question_of r.words (left_topology r.topology group width) Whole) frontier
