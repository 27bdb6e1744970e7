-- What an audit that finds nothing to deny has found.
use Rattle.std.proofs.Common.{arith, ◌≡◌, Ok, get_or, All}
use Rattle.outer_ports.specs.{declared.part.Part.Part, Files.Files}
use Rattle.candidate_order.specs.Frontiers.{QuestionValue, FrontierValue, IsUnknown}
use Rattle.report_form.specs.Reports.{ReportValue, IsReport, question_of}
use Rattle.frontier_audit.specs.{declared.verdict.AuditVerdict.TheVariants.Verified, Denials.each, Shelves.{PartRight, ShelfRight}, Joining.joined_checked, Candidates.candidates_within}
use Rattle.frontier_audit.specs.{Auditing.{unknown_checked, audit_of}, inner.Steps.{part_checked, point_checked, refuted_checked, candidate_checked, mark_checked, report_checked}}
use Rattle.frontier_audit.proofs.{Passing.{then_ok, ok_then, each_ok, ok_each, ok_in_part, verified_ok, ok_verified}, Beside.has_log_of, CutAway.owes_refutation}

-- each check of a part passes
pub record Passes (part : Part) (q : QuestionValue) (files : Files) (f : FrontierValue) : Type 0 where
  pub points : All (λ p. point_checked q p ≡ Ok tt) f.points
  pub refuted : All (λ x. refuted_checked part q files x ≡ Ok tt) f.refuted
  pub unknown : All (λ u. unknown_checked part q files u ≡ Ok tt) f.unknown
  pub candidates : All (λ x. candidate_checked f x ≡ Ok tt) (candidates_within q)
  pub marks : All (λ p. mark_checked q f p ≡ Ok tt) f.points

abbrev pub PartPasses : ReportValue → Files → Part × FrontierValue → Type 0
PartPasses r files x = Passes x.0 (question_of r.words r.topology x.0) files x.1

-- each check of a report passes
pub record ReportPasses (r : ReportValue) (files : Files) : Type 0 where
  pub parts : All (PartPasses r files) r.frontiers
  pub joined : joined_checked r r.frontiers ≡ Ok tt

part_passed : (r : ReportValue) (files : Files) (x : Part × FrontierValue) → PartPasses r files x → part_checked r files x ≡ Ok tt
part_passed r files x p = grind (arith, ok_in_part, ok_then, ok_each)

pub report_passes : (r : ReportValue) (files : Files) → audit_of r files ≡ Verified → ReportPasses r files
report_passes r files e = grind (arith, then_ok, verified_ok, each_ok)

pub report_passed : (r : ReportValue) (files : Files) → ReportPasses r files → audit_of r files ≡ Verified
report_passed r files p =
    ok_verified (report_checked r files)
    (ok_then (each (part_checked r files) r.frontiers) (joined_checked r r.frontiers)
    (ok_each (part_checked r files) r.frontiers (λ k d w. part_passed r files (get_or r.frontiers k d) (p.parts k d w))) p.joined)

-- ---- the files

pub part_right : (part : Part) (q : QuestionValue) (files : Files) (f : FrontierValue) → All (IsUnknown q) f.unknown → Passes part q files f → PartRight part q f files
part_right part q files f stated p = record {
  refuted = λ k d w uncut. owes_refutation part q files (get_or f.refuted k d) (p.refuted k d w) uncut;
  unknown = λ k d w. let u = stated k d w in has_log_of part q files (get_or f.unknown k d) u.conflicts (p.unknown k d w);
}

pub shelf_right : (r : ReportValue) (files : Files) → IsReport r → audit_of r files ≡ Verified → ShelfRight r files
shelf_right r files valid e k d w =
    let x = get_or r.frontiers k d in
    let frontier = valid.frontiers k d w in
    part_right x.0 (question_of r.words r.topology x.0) files x.1 frontier.unknown ((report_passes r files e).parts k d w)
