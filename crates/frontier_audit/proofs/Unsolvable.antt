-- A refuted candidate has no solution, since its formula is satisfiable where it has one.
use Rattle.std.proofs.{Common.{◌≡◌, ◌≢◌, Bool, true, false, get_or, Option, refl, sym, subst, arith, ◌↔◌, All, Contains}, lemmas.List.Elements.{All-contains, All-contains_itself}}
use Rattle.outer_ports.specs.{declared.part.Part.Part, Files.Files}
use Rattle.schedule.{specs.Links.{IsTopology, reversed_of}, proofs.Turned.turned_topology}
use Rattle.collective_spec.{specs.{declared.kind.Kind.Kind, Patterns.PatternValue, Collectives.{IsSpec, adds_up, fits_kind, kind_in}}, proofs.{Sized.{before_among, after_among, fitting_spec}, Chunks.{chunks_some, few_base, chunks_few}}}
use Rattle.collective_spec.specs.declared.kind.Kind.TheVariants as kind
use Rattle.candidate_order.specs.{declared.candidate.Candidate.Candidate, Ranges.IsLimits, Copied.{copied_spec, copied_question}, Frontiers.{QuestionValue, FrontierValue, IsWithin, IsSolvable, RightFrontier, instance_for}}
use Rattle.candidate_order.proofs.Orders.{has_chunk}
use Rattle.round_encoding.{specs.Candidates.IsCandidate, proofs.Obeyed.all_map}
use Rattle.inversion.proofs.Copied.{solvable_exactly}
use Rattle.cnf_formula.specs.Formulas.{Satisfiable}
use Rattle.report_form.specs.Reports.{ReportValue, IsReport, IsFrontier, parts_of, kind_of, question_of}
use Rattle.frontier_audit.specs.{declared.verdict.AuditVerdict.TheVariants.Verified, Shelves.ShelfRight, Auditing.audit_of}
use Rattle.frontier_audit.proofs.{Shelves.{unsatisfiable, question}, Audited.shelf_right, CutAway.cut_unsolvable, Right.{apart_in, each_apart, verified_right}}
use Rattle.candidate_formula.{specs.{Formulas.formula_for, Pruned.is_cut_away}, proofs.{CopyingQuestions.{within_by, reduced_formula}, Copying.{copied_keeps, copies, same_allowed}, Exact.exact_for}}

-- ---- the spec of a part

-- a part has a pattern where the whole has one
pub parts_fit : (k : Kind) (c : Option PatternValue) → fits_kind k c ≡ true → All (λ x. fits_kind (kind_of k x) c ≡ true) (parts_of k)
parts_fit k c e = grind arith

spec_is : (r : ReportValue) (part : Part) (f : FrontierValue) → IsReport r → Contains r.frontiers (part, f) → IsSpec r.topology.topology.nodes (question r part).spec
spec_is r part f ok at = grind (arith, all_map, parts_fit, All-contains, fitting_spec)

-- ---- a candidate that has a solution has a satisfiable formula

candidate_for : (q : QuestionValue) (x : Candidate) → IsTopology q.topology → IsSpec q.topology.nodes q.spec → IsLimits q.limits → IsWithin q x → IsCandidate q.topology (instance_for q x).pre (instance_for q x).post x.s x.r
candidate_for q x topology is limits w = grind (arith, before_among, after_among, has_chunk, chunks_some, chunks_few, few_base)

module _ (q : QuestionValue) (x : Candidate) (topology : IsTopology q.topology) (is : IsSpec q.topology.nodes q.spec) (single : kind_in q.spec ≢ kind.Allreduce) (limits : IsLimits q.limits) (w : IsWithin q x) where
  -- of a reduction the formula is that of the collective that copies, over the links turned round
  turned : QuestionValue
  turned = copied_question q

  within_turned : IsWithin turned x
  unfolding turned
  within_turned = within_by (reversed_of q.topology) q.limits x q.spec (copied_spec q.spec) (sym (same_allowed q.spec q.topology.nodes x.c)) w

  by_kind : (b : Bool) → adds_up q.spec ≡ b → Satisfiable (formula_for q x) ↔ IsSolvable q x
  unfolding turned
  by_kind false copying = exact_for q x copying (candidate_for q x topology is limits w)
  by_kind true adds =
      let exact = exact_for turned x (copies q.spec single) (candidate_for turned x (turned_topology q.topology topology) (copied_keeps q.topology.nodes q.spec is) limits within_turned) in
      let same = reduced_formula q x adds single in
      let sums = solvable_exactly q x adds single is in
      (λ some. sums.1 (exact.0 (subst Satisfiable (sym same) some)), λ some. subst Satisfiable same (exact.1 (sums.0 some)))

  exactly_solved : Satisfiable (formula_for q x) ↔ IsSolvable q x
  exactly_solved = by_kind (adds_up q.spec) refl

-- ---- refuted candidates

-- one or the other
by_either : (b : Bool) → (b ≡ true → ⊥) → (b ≡ false → ⊥) → ⊥
by_either b on off = grind arith

module _ (r : ReportValue) (part : Part) (f : FrontierValue) (x : Candidate) (ok : IsReport r) (at : Contains r.frontiers (part, f)) (of : Contains f.refuted x) where
  alone : kind_in (question r part).spec ≢ kind.Allreduce
  alone = grind (arith, All-contains (λ y. kind_of r.words.collective.kind y.0 ≢ kind.Allreduce) r.frontiers (part, f) (each_apart r ok) at, apart_in)

  formula_is_exact : Satisfiable (formula_for (question r part) x) ↔ IsSolvable (question r part) x
  formula_is_exact =
      let frontier = All-contains (λ y. IsFrontier (question_of r.words r.topology y.0) y.1) r.frontiers (part, f) ok.frontiers at in
      exactly_solved (question r part) x ok.topology.topology (spec_is r part f ok at) alone ok.words.limits (All-contains (IsWithin (question r part)) f.refuted x frontier.refuted of)

-- what is cut away has no solution, and the formula of another has a proof beside it
pub no_solution : (r : ReportValue) (files : Files) (part : Part) (f : FrontierValue) (x : Candidate) → IsReport r → ShelfRight r files → Contains r.frontiers (part, f) → Contains f.refuted x → IsSolvable (question r part) x → ⊥
no_solution r files part f x ok shelf at of solvable =
    let exact = formula_is_exact r part f x ok at of in
    by_either (is_cut_away (question r part) x)
    (λ cut. cut_unsolvable (question r part) x (spec_is r part f ok at) (alone r part f x ok at of) cut solvable)
    (λ uncut. unsatisfiable r files part f x shelf at of uncut (exact.1 solvable))

pub no_model : (r : ReportValue) (files : Files) (part : Part) (f : FrontierValue) (x : Candidate) → IsReport r → ShelfRight r files → Contains r.frontiers (part, f) → Contains f.refuted x → Satisfiable (formula_for (question r part) x) → ⊥
no_model r files part f x ok shelf at of some = let exact = formula_is_exact r part f x ok at of in no_solution r files part f x ok shelf at of (exact.0 some)

pub all_right : (r : ReportValue) (files : Files) → IsReport r → audit_of r files ≡ Verified → (part : Part) (f : FrontierValue) → Contains r.frontiers (part, f) → RightFrontier (question r part) f
all_right r files ok e part f at = verified_right r files ok e part f at (λ k d low. no_solution r files part f (get_or f.refuted k d) ok (shelf_right r files ok e) at (All-contains_itself f.refuted k d low))
