-- The verdict on a report and the files beside it: claims in their order, and the first that does not hold is denied. This project's own.
use Rattle.std.specs.Prelude.{◌≡◌, ◌≢◌, ◌⊎◌, not, List, [], ◌∷◌, filter, None, Some}
use Rattle.outer_ports.specs.{declared.{part.Part.{Part, TheVariants.{Reduce, Gather, Joined}}, proof_name.FileKind.TheVariants.{Cnf, Lrat, Partial}}, Files.Files}
use Rattle.schedule.specs.Links.{TopologyValue}
use Rattle.candidate_order.specs.{declared.candidate.Candidate.Candidate, Costs.Before, Frontiers.{QuestionValue, PointValue, UnknownValue, FrontierValue, IsWithin, IsSolvedBy, IsAnswered, IsPoint}}
use Rattle.allreduce_join.specs.Joins.{join_of, pairs_of, IsJoin}
use Rattle.lrat_text.specs.Printing.{cnf_text}
use Rattle.candidate_formula.specs.{Formulas.formula_for, Files.{file_of, HasRefutation, HasLog}, Pruned.is_cut_away}
use Rattle.report_form.specs.Reports.{ReportValue, question_of}
use Rattle.frontier_audit.specs.declared.verdict.AuditVerdict.{AuditVerdict, TheVariants.{Verified, Denied}}
use Rattle.frontier_audit.specs.declared.verdict.Reason.TheVariants.{ScheduleWrong, MarkWrong, CandidateMissing, ProofMissing, ProofRefused, CnfDiffers, PartialRefused, JoinWrong}

-- what is said of a verdict
abbrev pub Saying : Type 1
Saying = AuditVerdict → Type 0

-- where the claim holds the rest decides, and where it does not it is denied
abbrev pub Claim : Type 0 → AuditVerdict → Saying → Saying
Claim Holds denial Rest v = (Holds × Rest v) ⊎ ((Holds → ⊥) × (v ≡ denial))

-- the same of each in turn
abbrev pub Each : {X : Type 0} → (X → Saying → Saying) → List X → Saying → Saying
Each Claimed [] Rest = Rest
Each Claimed (x ∷ xs) Rest = Claimed x (Each Claimed xs Rest)

-- its formula stands there, and a proof of it
abbrev pub RefutationClaim : Part → QuestionValue → Files → Candidate → Saying → Saying
RefutationClaim part q files x Rest =
    Claim (files (file_of Cnf part x) ≢ None) (Denied ProofMissing part x)
    (Claim (files (file_of Cnf part x) ≡ Some (cnf_text (formula_for q x))) (Denied CnfDiffers part x)
    (Claim (files (file_of Lrat part x) ≢ None) (Denied ProofMissing part x)
    (Claim (HasRefutation part q files x) (Denied ProofRefused part x) Rest)))

-- its log stands there
abbrev pub LogClaim : Part → QuestionValue → Files → UnknownValue → Saying → Saying
LogClaim part q files u Rest =
    Claim (files (file_of Partial part u.candidate) ≢ None) (Denied ProofMissing part u.candidate)
    (Claim (HasLog part q files u) (Denied PartialRefused part u.candidate) Rest)

-- the first candidate in the order of the search that is passed over
pub record IsFirstMissing (q : QuestionValue) (f : FrontierValue) (x : Candidate) : Type 0 where
  pub within : IsWithin q x
  pub missing : IsAnswered f x → ⊥
  pub first : (y : Candidate) → IsWithin q y → Before y x → IsAnswered f y

-- no candidate within the limits is passed over, or the first is denied
abbrev pub AnswerClaim : Part → QuestionValue → FrontierValue → Saying → Saying
AnswerClaim part q f Rest v =
    (((x : Candidate) → IsWithin q x → IsAnswered f x) × Rest v) ⊎ ((x : Candidate) × (IsFirstMissing q f x × (v ≡ Denied CandidateMissing part x)))

-- each point has a schedule that solves what is asked; each refuted candidate that is not cut away has its refutation, each unknown one its log; none is passed over; and each point is right, so that its mark is
abbrev pub FrontierClaim : Part → QuestionValue → Files → FrontierValue → Saying → Saying
FrontierClaim part q files f Rest =
    Each (λ p. Claim (IsSolvedBy q p.candidate p.schedule) (Denied ScheduleWrong part p.candidate)) f.points
    (Each (RefutationClaim part q files) (filter (λ x. not (is_cut_away q x)) f.refuted)
    (Each (LogClaim part q files) f.unknown
    (AnswerClaim part q f
    (Each (λ p. Claim (IsPoint q f.refuted p) (Denied MarkWrong part p.candidate)) f.points Rest))))

-- each pair has its join in its turn, and no point is left
abbrev pub JoinsClaim : TopologyValue → List (PointValue × PointValue) → List PointValue → Saying
JoinsClaim t [] [] v = v ≡ Verified
JoinsClaim t [] (p ∷ ps) v = v ≡ Denied JoinWrong Joined p.candidate
JoinsClaim t (pair ∷ pairs) [] v = v ≡ Denied JoinWrong Joined (join_of pair.0 pair.1).candidate
JoinsClaim t (pair ∷ pairs) (p ∷ ps) v = Claim (IsJoin t pair × (p ≡ join_of pair.0 pair.1)) (Denied JoinWrong Joined (join_of pair.0 pair.1).candidate) (JoinsClaim t pairs ps) v

-- only an allreduce has two parts, which are joined
abbrev pub JoinedClaim : ReportValue → List (Part × FrontierValue) → Saying
JoinedClaim r ((Reduce, f) ∷ (Gather, h) ∷ []) v = JoinsClaim r.topology.topology (pairs_of f.points h.points) r.joined v
JoinedClaim r _ v = v ≡ Verified

-- the report and the files are right, or the first claim that does not hold is denied: each part, and then what is joined
abbrev pub IsVerdict : ReportValue → Files → Saying
IsVerdict r files = Each (λ x. FrontierClaim x.0 (question_of r.words r.topology x.0) files x.1) r.frontiers (JoinedClaim r r.frontiers)
