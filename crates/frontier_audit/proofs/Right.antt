-- An audit finds nothing to deny exactly where the frontiers, the files and the joined points are right.
use Rattle.std.proofs.{lemmas.{Bool.Decides.nat_tests, Grind.common_steps, List.Elements.{All-contains, All-contains_itself}}, Common.{arith, ◌≡◌, true, get_or, Option, None, Ok, refl, sym, ◌∙◌, ◌≢◌, All, Contains}}
use Rattle.outer_ports.specs.{declared.part.Part.Part, Files.Files}
use Rattle.outer_ports.specs.declared.part.Part.TheVariants as part
use Rattle.collective_spec.specs.{Collectives.{kind_in, spec_of, fits_kind}, declared.{collective.Collective.Collective, kind.Kind.Kind}, Patterns.PatternValue}
use Rattle.collective_spec.specs.declared.kind.Kind.TheVariants as kind
use Rattle.candidate_order.specs.Frontiers.{QuestionValue, FrontierValue, IsSolvable, IsPoint, RightFrontier}
use Rattle.allreduce_join.specs.Joins.{Joins, pairs_of}
use Rattle.report_form.specs.Reports.{ReportValue, IsReport, IsFrontier, parts_of, kind_of, question_of}
use Rattle.round_encoding.proofs.Obeyed.{all_map}
use Rattle.frontier_audit.{specs.declared.verdict.{AuditVerdict.TheVariants.Verified, Reason.TheVariants.{ScheduleWrong, MarkWrong, CandidateMissing}}, proofs.{Marked.{answered_decides, optimal_decides, mark_by, by_mark}, Shelves.question}}
use Rattle.frontier_audit.{proofs.{Passing.{refused_not, not_refused, in_part_ok, ok_in_part}, Audited.{Passes, PartPasses, report_passes, report_passed}, CutAway.passes_refuted}, specs.Joining.{IsSummable, joins_checked, joined_checked}}
use Rattle.frontier_audit.{proofs.Tried.{listed_contains, within_listed, each_within}, specs.{inner.Steps.{is_answered, is_mark, joins_of}, Parts.{is_reduce, is_gather, points_of}, Solutions.{is_solution, is_optimal}, Auditing.audit_of}}
use Rattle.frontier_audit.{specs.{Shelves.{PartRight, ShelfRight}, Candidates.candidates_within}, proofs.{Solved.{solved_by, by_solution}, Joined.{are_joined, joined_are}, Jointly.joined_by_kind, Beside.passes_log}}

-- ---- a part

checked_point : (part : Part) (q : QuestionValue) (files : Files) (f : FrontierValue) → IsFrontier q f → Passes part q files f → All (IsPoint q f.refuted) f.points
checked_point part q files f ok p k d low = grind (arith, mark_by, refused_not, optimal_decides, solved_by)

pub right_part : (part : Part) (q : QuestionValue) (files : Files) (f : FrontierValue) → kind_in q.spec ≢ kind.Allreduce → IsFrontier q f → Passes part q files f → All (λ x. IsSolvable q x → ⊥) f.refuted → RightFrontier q f
right_part part q files f single ok p unsolvable = record {
  single = single;
  points = checked_point part q files f ok p;
  refuted = unsolvable;
  unknown = ok.unknown;
  whole = λ x w.
      let at = listed_contains (candidates_within q) x (within_listed q x w) in
      let passes = All-contains (λ y. is_answered f y ≡ true) (candidates_within q) x (λ k d low. refused_not (is_answered f (get_or (candidates_within q) k d)) (CandidateMissing, get_or (candidates_within q) k d) (p.candidates k d low)) at in
      (answered_decides f x).0 passes;
}

pub part_passes : (part : Part) (q : QuestionValue) (files : Files) (f : FrontierValue) → RightFrontier q f → PartRight part q f files → Passes part q files f
part_passes part q files f right shelf = record {
  points = λ k d low. let p = right.points k d low in not_refused (is_solution q (get_or f.points k d)) (ScheduleWrong, (get_or f.points k d).candidate) (by_solution q (get_or f.points k d) p.solves);
  refuted = λ k d low. passes_refuted part q files (get_or f.refuted k d) (shelf.refuted k d low);
  unknown = λ k d low. let u = right.unknown k d low in passes_log part q files (get_or f.unknown k d) u.conflicts (shelf.unknown k d low);
  candidates = λ k d low.
      let x = get_or (candidates_within q) k d in
      not_refused (is_answered f x) (CandidateMissing, x) ((answered_decides f x).1 (right.whole x (each_within q k d low)));
  marks = λ k d low.
      let x = get_or f.points k d in
      let p = right.points k d low in
      let decides = optimal_decides q f x.candidate in
      not_refused (is_mark (is_optimal q f x.candidate) x.mark) (MarkWrong, x.candidate)
      (by_mark (is_optimal q f x.candidate) x.mark (λ e. decides.1 (p.optimal.0 e), λ e. p.optimal.1 (decides.0 e)) p.or_open);
}

-- ---- no part is an allreduce

pub apart : (k : Kind) → All (λ x. kind_of k x ≢ kind.Allreduce) (parts_of k)
apart k = grind arith

pub each_apart : (r : ReportValue) → IsReport r → All (λ x. kind_of r.words.collective.kind x.0 ≢ kind.Allreduce) r.frontiers
each_apart r ok = grind (arith, nat_tests, common_steps, all_map, apart)

-- ---- a report

-- a pattern is no allreduce
pub apart_in : (c : Collective) (o : Option PatternValue) → c.kind ≢ kind.Allreduce → kind_in (spec_of c o) ≢ kind.Allreduce
apart_in c o apart = grind (arith, apart)

-- an allreduce has no pattern
pub unpatterned : (o : Option PatternValue) → fits_kind kind.Allreduce o ≡ true → o ≡ None
unpatterned o e = grind arith

pub verified_right : (r : ReportValue) (files : Files) → IsReport r → audit_of r files ≡ Verified → (part : Part) (f : FrontierValue) → Contains r.frontiers (part, f) → All (λ x. IsSolvable (question r part) x → ⊥) f.refuted → RightFrontier (question r part) f
verified_right r files ok e part f at unsolvable =
    let passes = All-contains (PartPasses r files) r.frontiers (part, f) (report_passes r files e).parts at in
    let frontier = All-contains (λ x. IsFrontier (question_of r.words r.topology x.0) x.1) r.frontiers (part, f) ok.frontiers at in
    let single = All-contains (λ x. kind_of r.words.collective.kind x.0 ≢ kind.Allreduce) r.frontiers (part, f) (each_apart r ok) at in
    right_part part (question r part) files f (apart_in (record { kind = kind_of r.words.collective.kind part; root = r.words.collective.root }) r.topology.custom single) frontier passes unsolvable

pub joinable : (r : ReportValue) → IsReport r → r.words.collective.kind ≡ kind.Allreduce → All (IsSummable r.topology.topology) r.joined
joinable r ok e k d low = grind (arith, unpatterned, question)

abbrev JoinsOf : ReportValue → Type 0
JoinsOf r = Joins r.topology.topology (points_of is_reduce r.frontiers) (points_of is_gather r.frontiers) r.joined

only_then : (r : ReportValue) → IsReport r → r.words.collective.kind ≡ kind.Allreduce → joined_checked r r.frontiers ≡ Ok tt → joins_checked r.topology.topology (pairs_of (points_of is_reduce r.frontiers) (points_of is_gather r.frontiers)) r.joined ≡ Ok tt
only_then r ok same e =
    in_part_ok part.Joined (joins_checked r.topology.topology (pairs_of (points_of is_reduce r.frontiers) (points_of is_gather r.frontiers)) r.joined) (joined_by_kind kind.Allreduce r same ok ∙ e)

pub verified_joins : (r : ReportValue) (files : Files) → IsReport r → audit_of r files ≡ Verified → r.words.collective.kind ≡ kind.Allreduce → JoinsOf r
verified_joins r files ok e same = grind (arith, are_joined, joinable, only_then, report_passes)

joined_passes : (r : ReportValue) → IsReport r → (r.words.collective.kind ≡ kind.Allreduce → joins_checked r.topology.topology (pairs_of (points_of is_reduce r.frontiers) (points_of is_gather r.frontiers)) r.joined ≡ Ok tt) → joined_checked r r.frontiers ≡ Ok tt
joined_passes r ok h =
    sym (joined_by_kind r.words.collective.kind r refl ok) ∙ ok_in_part part.Joined (joins_of r.words.collective.kind r) (grind arith)

pub right_verified : (r : ReportValue) (files : Files) → IsReport r → ShelfRight r files → ((part : Part) (f : FrontierValue) → Contains r.frontiers (part, f) → RightFrontier (question r part) f) → (r.words.collective.kind ≡ kind.Allreduce → JoinsOf r) → audit_of r files ≡ Verified
right_verified r files ok shelf right joins =
    report_passed r files (record {
      parts = λ k d low.
          let x = get_or r.frontiers k d in
          part_passes x.0 (question r x.0) files x.1 (right x.0 x.1 (All-contains_itself r.frontiers k d low)) (shelf k d low);
      joined = joined_passes r ok (λ same.
          let j = joins same in
          joined_are r.topology.topology (pairs_of (points_of is_reduce r.frontiers) (points_of is_gather r.frontiers)) r.joined (joinable r ok same) (record { in_order = j.in_order; summed = j.summed }));
    })
