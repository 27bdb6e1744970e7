-- What is said of a part of a report, as contracts of the code have it.
use Rattle.std.specs.{Prelude.{◌≡◌, Bool, true, false, if◌then◌else◌, List, [], All, Any, Contains}, List.flat_map}
use Rattle.outer_ports.specs.{Files.Files, declared.{part.Part.Part, proof_name.ProofName.ProofName}}
use Rattle.outer_ports.specs.declared.part.Part.TheVariants as part
use Rattle.proof_rules.specs.Refuting.{Exhausted}
use Rattle.candidate_order.specs.{declared.candidate.Candidate.Candidate, Frontiers.{QuestionValue, FrontierValue, PointValue, RightFrontier, Searched}}
use Rattle.candidate_formula.specs.{Formulas.{formula_for, Suits}, Searched.{copying_schedule, searched_question}, Files.{candidate_of, HasRefutation}, Pruned.{HasOwnFiles, is_cut_away}}
use Rattle.report_form.specs.Reports.{ReportValue, question_of}

-- the frontier of a part is right
abbrev pub IsRightPart : ReportValue → Part × FrontierValue → Type 0
IsRightPart r x = RightFrontier (question_of r.words r.topology x.0) x.1

abbrev pub IsSearchedPart : ReportValue → Part × FrontierValue → Type 0
IsSearchedPart r x = Searched (question_of r.words r.topology x.0) x.1

-- no unknown candidate is cut away
abbrev pub IsUncutPart : ReportValue → Part × FrontierValue → Type 0
IsUncutPart r x = All (λ u. is_cut_away (question_of r.words r.topology x.0) u.candidate ≡ false) x.1.unknown

-- each schedule, as what is searched has it, is as the words ask beside solving
abbrev pub IsSuitedPart : ReportValue → Part × FrontierValue → Type 0
IsSuitedPart r x = let q = question_of r.words r.topology x.0 in All (λ p. Suits (searched_question q) p.candidate (copying_schedule q.spec p.schedule)) x.1.points

-- the formula of each unknown candidate is exhausted by the conflicts that are stated
abbrev pub IsExhaustedPart : ReportValue → Part × FrontierValue → Type 0
IsExhaustedPart r x = All (λ u. Exhausted (formula_for (question_of r.words r.topology x.0) u.candidate) u.conflicts) x.1.unknown

-- ---- files

-- the file belongs to a candidate of which a part of the report owes files
abbrev pub IsOf : ReportValue → ProofName → Type 0
IsOf r name = Any (λ x. (x.0 ≡ name.part) × HasOwnFiles (question_of r.words r.topology x.0) x.1 (candidate_of name)) r.frontiers

-- of a part, each candidate that was tried, is not cut away, and was refuted by its files before, is refuted
abbrev pub TakesUpPart : Part → QuestionValue → FrontierValue → Files → Type 0
TakesUpPart part q f before = (x : Candidate) → HasOwnFiles q f x → HasRefutation part q before x → Contains f.refuted x

-- ---- the points of parts

abbrev pub is_reduce : Part → Bool
is_reduce part.Reduce = true
is_reduce _ = false

abbrev pub is_gather : Part → Bool
is_gather part.Gather = true
is_gather _ = false

-- the points of the parts that pass a test
abbrev pub points_of : (Part → Bool) → List (Part × FrontierValue) → List PointValue
points_of test frontiers = flat_map (λ x. if test x.0 then x.1.points else []) frontiers
