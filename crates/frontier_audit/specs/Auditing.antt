-- The checks of a report and of the files beside it, in their order. This project's own.
use Rattle.std.specs.{Prelude.{◌||◌, not, if◌then◌else◌, bytes_eq, Ok}, List.list_any}
use Rattle.text_lines.specs.Check.{◌>>=◌, refuse, need}
use Rattle.outer_ports.specs.{declared.{part.Part.Part, proof_name.FileKind.TheVariants.{Cnf, Lrat, Partial}}, Files.Files}
use Rattle.candidate_order.specs.{declared.{candidate.Candidate.Candidate, mark.Mark.TheVariants.{Optimal, Open}}, Frontiers.{QuestionValue, UnknownValue, FrontierValue, given_up}}
use Rattle.lrat_text.specs.Printing.{cnf_text}
use Rattle.report_form.specs.{Tests.is_no_worse, Reports.{ReportValue, question_of}}
use Rattle.frontier_audit.specs.{declared.verdict.{AuditVerdict.AuditVerdict, Reason.TheVariants.{ScheduleWrong, MarkWrong, CandidateMissing, ProofMissing, ProofRefused, CnfDiffers, PartialRefused}}, Solutions.{is_solution, is_optimal}}
use Rattle.frontier_audit.specs.{Denials.{Denial, Checked, each, in_part, verdict_from}, Candidates.{is_listed, candidates_within}, Joining.{same_mark, joined_checked}}
use Rattle.candidate_formula.specs.{Formulas.formula_for, Files.file_of, Pruned.is_cut_away}
use Rattle.proof_audit.specs.Proving.{is_refutation, is_spent_log}

-- its formula stands there, and a proof of it
abbrev pub refutation_checked : Part → QuestionValue → Files → Candidate → Checked Denial
refutation_checked part q files x = do
  formula ← need (files (file_of Cnf part x)) (ProofMissing, x)
  _ ← refuse (not (bytes_eq formula (cnf_text (formula_for q x)))) (CnfDiffers, x)
  proof ← need (files (file_of Lrat part x)) (ProofMissing, x)
  refuse (not (is_refutation (formula_for q x) proof)) (ProofRefused, x)

-- its log stands there
abbrev pub unknown_checked : Part → QuestionValue → Files → UnknownValue → Checked Denial
unknown_checked part q files u = do
  log ← need (files (file_of Partial part u.candidate)) (ProofMissing, u.candidate)
  refuse (not (is_spent_log (formula_for q u.candidate) u.conflicts log)) (PartialRefused, u.candidate)

-- each point has a schedule that solves what is asked; each refuted candidate that is not cut away has its refutation, each unknown one its log; of each candidate within the limits a point is no worse, or it is refuted or unknown; and each mark is right
abbrev pub frontier_checked : Part → QuestionValue → Files → FrontierValue → Checked Denial
frontier_checked part q files f = do
  _ ← each (λ p. refuse (not (is_solution q p)) (ScheduleWrong, p.candidate)) f.points
  _ ← each (λ x. if is_cut_away q x then Ok tt else refutation_checked part q files x) f.refuted
  _ ← each (unknown_checked part q files) f.unknown
  _ ← each (λ x. refuse (not (list_any (λ p. is_no_worse p.candidate x) f.points || is_listed f.refuted x || is_listed (given_up f) x)) (CandidateMissing, x)) (candidates_within q)
  each (λ p. refuse (not (same_mark (if is_optimal q f p.candidate then Optimal else Open) p.mark)) (MarkWrong, p.candidate)) f.points

-- the report and the files are right, or the first check that fails: each part, and then what is joined
abbrev pub audit_of : ReportValue → Files → AuditVerdict
audit_of r files = verdict_from do
  _ ← each (λ x. in_part x.0 (frontier_checked x.0 (question_of r.words r.topology x.0) files x.1)) r.frontiers
  joined_checked r r.frontiers
