-- What a right shelf says, drawn out.
use Rattle.std.proofs.{Common.{arith, ◌≡◌, false, sym, ◌∙◌, Contains, None}, lemmas.{List.Elements.All-contains, Option.none-some}}
use Rattle.outer_ports.specs.{declared.{part.Part.Part, proof_name.FileKind.TheVariants.{Cnf, Lrat, Partial}}, Files.Files}
use Rattle.cnf_formula.specs.Formulas.{Satisfiable}
use Rattle.candidate_order.specs.{declared.candidate.Candidate.Candidate, Frontiers.{QuestionValue, FrontierValue, UnknownValue}}
use Rattle.proof_rules.proofs.Calm.{never_refuted}
use Rattle.report_form.specs.Reports.{ReportValue, question_of}
use Rattle.candidate_formula.specs.{Formulas.formula_for, Files.{file_of, HasRefutation, HasLog}, Pruned.is_cut_away}
use Rattle.frontier_audit.specs.Shelves.{PartRight, ShelfRight}

abbrev pub question : ReportValue → Part → QuestionValue
question r part = question_of r.words r.topology part

part_of : (r : ReportValue) (files : Files) (part : Part) (f : FrontierValue) → ShelfRight r files → Contains r.frontiers (part, f) → PartRight part (question r part) f files
part_of r files part f right at = All-contains (λ x. PartRight x.0 (question_of r.words r.topology x.0) x.1 files) r.frontiers (part, f) right at

refutation_of : (r : ReportValue) (files : Files) (part : Part) (f : FrontierValue) (x : Candidate) → ShelfRight r files → Contains r.frontiers (part, f) → Contains f.refuted x → is_cut_away (question r part) x ≡ false → HasRefutation part (question r part) files x
refutation_of r files part f x right at of uncut = grind (arith, part_of r files part f right at, All-contains)

log_of : (r : ReportValue) (files : Files) (part : Part) (f : FrontierValue) (u : UnknownValue) → ShelfRight r files → Contains r.frontiers (part, f) → Contains f.unknown u → HasLog part (question r part) files u
log_of r files part f u right at of = grind (arith, part_of r files part f right at, All-contains)

pub has_formula : (r : ReportValue) (files : Files) (part : Part) (f : FrontierValue) (x : Candidate) → ShelfRight r files → Contains r.frontiers (part, f) → Contains f.refuted x → is_cut_away (question r part) x ≡ false → files (file_of Cnf part x) ≡ None → ⊥
has_formula r files part f x right at of uncut e = let has = refutation_of r files part f x right at of uncut in none-some _ (sym e ∙ has.formula)

pub has_proof : (r : ReportValue) (files : Files) (part : Part) (f : FrontierValue) (x : Candidate) → ShelfRight r files → Contains r.frontiers (part, f) → Contains f.refuted x → is_cut_away (question r part) x ≡ false → files (file_of Lrat part x) ≡ None → ⊥
has_proof r files part f x right at of uncut e = let has = refutation_of r files part f x right at of uncut in none-some _ (sym e ∙ has.holds.found)

pub has_log : (r : ReportValue) (files : Files) (part : Part) (f : FrontierValue) (u : UnknownValue) → ShelfRight r files → Contains r.frontiers (part, f) → Contains f.unknown u → files (file_of Partial part u.candidate) ≡ None → ⊥
has_log r files part f u right at of e = let has = log_of r files part f u right at of in none-some _ (sym e ∙ has.holds.found)

pub unsatisfiable : (r : ReportValue) (files : Files) (part : Part) (f : FrontierValue) (x : Candidate) → ShelfRight r files → Contains r.frontiers (part, f) → Contains f.refuted x → is_cut_away (question r part) x ≡ false → Satisfiable (formula_for (question_of r.words r.topology part) x) → ⊥
unsatisfiable r files part f x right at of uncut s = grind (arith, refutation_of r files part f x right at of uncut, never_refuted)
