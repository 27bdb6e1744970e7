-- What a search owes of the files: what it leaves where it was done, and where it broke off.
use Rattle.std.specs.Prelude.{◌≡◌, false, All, Any, Contains}
use Rattle.outer_ports.specs.{declared.{proof_name.ProofName.ProofName, part.Part.Part}, Files.Files}
use Rattle.candidate_order.specs.{declared.candidate.Candidate.Candidate, Frontiers.IsWithin}
use Rattle.candidate_formula.specs.{Formulas.formula_for, Files.{candidate_of, FrontierFiles, HasRefutation}, Pruned.{HasOwnFiles, is_cut_away}, Begun.BegunOnly}
use Rattle.proof_audit.specs.Kept.{BothStay}
use Rattle.topology_text.specs.Value.{NamedTopologyValue}
use Rattle.report_form.specs.Reports.{WordsValue, ReportValue, parts_of, question_of}

-- where it was done: each candidate of each part of the report that is not cut away has its files, and no file changed that belongs to none of them
pub record Proves (report : ReportValue) (before after : Files) : Type 0 where
  pub files : All (λ x. FrontierFiles x.0 (question_of report.words report.topology x.0) after x.1) report.frontiers
  pub others : (name : ProofName) → (Any (λ x. (x.0 ≡ name.part) × HasOwnFiles (question_of report.words report.topology x.0) x.1 (candidate_of name)) report.frontiers → ⊥) → after name ≡ before name

-- where it broke off: it began files of parts that it searches and of candidates within its limits that are not cut away, and no other file changed
abbrev pub BreaksOff : WordsValue → NamedTopologyValue → Files → Files → Type 0
BreaksOff w t =
    BegunOnly (λ name. Contains (parts_of w.collective.kind) name.part × (IsWithin (question_of w t name.part) (candidate_of name) × (is_cut_away (question_of w t name.part) (candidate_of name) ≡ false)))
    (λ name. formula_for (question_of w t name.part) (candidate_of name))

-- ---- files that are kept

-- each candidate that was tried, is not cut away, and was refuted by its files before, is refuted
abbrev pub TakesUpProofs : ReportValue → Files → Type 0
TakesUpProofs r before =
    All (λ x. let q = question_of r.words r.topology x.0 in (y : Candidate) → HasOwnFiles q x.1 y → HasRefutation x.0 q before y → Contains x.1.refuted y) r.frontiers

-- of each part that the words search, each candidate that its files refuted before has these two files still
abbrev pub KeepsProofs : WordsValue → NamedTopologyValue → Files → Files → Type 0
KeepsProofs w t before after =
    (part : Part) → Contains (parts_of w.collective.kind) part → (x : Candidate) → HasRefutation part (question_of w t part) before x → BothStay part x before after
