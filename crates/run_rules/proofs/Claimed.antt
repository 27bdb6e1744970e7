-- What an audit answers is the verdict on the report and the files.
use Rattle.std.proofs.Common.{◌≡◌, ◌≢◌, ◌⊎◌, ℕ, ◌&&◌, ⊎_elim, map, Bool, true, false, Decides, List, [], ◌∷◌, Option, None, Some, Ok, Err, inl, inr, refl, sym, ap, ◌∙◌, subst, arith, not, filter, if◌then◌else◌, bytes_eq, All, AllPairs, Contains}
use Rattle.std.proofs.lemmas.{Slice.Eq.bytes_eq-Decides, List.Elements.{All-nil, All-cons, All-head, All-tail, All-contains, Contains-append_cases, Contains-push_cases}}
use Rattle.list_laws.proofs.{Members.Contains-cons, Pairs.{pairs_tail, pairs_head}}
use Rattle.text_lines.specs.Check.{◌>>=◌, refuse, need}
use Rattle.outer_ports.specs.{declared.{part.Part.Part, proof_name.FileKind.TheVariants.{Cnf, Lrat, Partial}}, Files.Files}
use Rattle.outer_ports.specs.declared.part.Part.TheVariants as part
use Rattle.schedule.specs.Links.{TopologyValue}
use Rattle.collective_spec.specs.declared.kind.Kind.{Kind}
use Rattle.collective_spec.specs.declared.kind.Kind.TheVariants as kind
use Rattle.lrat_text.specs.Printing.{cnf_text}
use Rattle.candidate_order.specs.{declared.candidate.Candidate.Candidate, Costs.Before, Frontiers.{QuestionValue, PointValue, UnknownValue, FrontierValue, IsSolvedBy, IsAnswered, IsPoint, IsUnknown}}
use Rattle.candidate_order.proofs.{Orders.Before-irrefl, Unique.candidates_apart}
use Rattle.allreduce_join.specs.Joins.{join_of, pairs_of, IsJoin}
use Rattle.candidate_formula.specs.{Formulas.formula_for, Files.{file_of, HasRefutation, HasLog}, Pruned.is_cut_away}
use Rattle.proof_audit.specs.Proving.{is_refutation, is_spent_log}
use Rattle.report_form.specs.Reports as report
use Rattle.report_form.specs.Reports.{ReportValue, IsReport, IsFrontier, parts_of, question_of}
use Rattle.frontier_audit.specs.declared.verdict.AuditVerdict.{AuditVerdict, TheVariants.{Verified, Denied}}
use Rattle.frontier_audit.specs.{declared.verdict.Reason.TheVariants.{ScheduleWrong, MarkWrong, CandidateMissing, ProofMissing, ProofRefused, CnfDiffers, PartialRefused, JoinWrong}, Denials.{Denial, Checked, each, in_part, verdict_from}}
use Rattle.frontier_audit.specs.{Candidates.candidates_within, Solutions.{is_solution, is_optimal}, Joining.{IsSummable, same_point, joins_checked, joined_checked}, Auditing.{refutation_checked, unknown_checked, frontier_checked, audit_of}}
use Rattle.frontier_audit.specs.inner.Steps.{is_answered, is_mark, is_join, point_checked, refuted_checked, candidate_checked, mark_checked, part_checked}
use Rattle.frontier_audit.proofs.{Passing.{then_ok, ok_then, each_ok, refused_not, not_refused}, Tried.candidates_exactly, InOrder.within_ascends, Beside.{has_refutation, passes_refutation, has_log_of, passes_log}}
use Rattle.frontier_audit.proofs.{Marked.{answered_decides, optimal_decides, mark_by, by_mark}, Solved.{solved_by, by_solution}, Joined.{AreJoined, are_joined, joined_are}, Right.joinable}
use Rattle.run_rules.specs.Claims.{Saying, Claim, Each, RefutationClaim, LogClaim, AnswerClaim, FrontierClaim, JoinsClaim, JoinedClaim, IsVerdict}

-- ---- checks and claims

-- the verdict of a check of a part, where the rest comes to another
abbrev behind : Part → Checked Denial → AuditVerdict → AuditVerdict
behind part (Ok u) w = w
behind part (Err denial) w = Denied denial.0 part denial.1

-- what is claimed holds of the verdict of the check, where the rest holds of what comes behind a check that passes
abbrev Meets : Part → Checked Denial → (Saying → Saying) → Type 1
Meets part check Claimed = (w : AuditVerdict) (Rest : Saying) → (check ≡ Ok tt → Rest w) → Claimed Rest (behind part check w)

tested : (part : Part) (b : Bool) (Holds : Type 0) (denial : Denial) → Decides b Holds → Meets part (refuse (not b) denial) (Claim Holds (Denied denial.0 part denial.1))
tested part true Holds denial means w Rest rest = inl (means.0 refl, rest refl)
tested part false Holds denial means w Rest rest = inr (λ h. absurd (let e = means.1 h in cc), refl)

-- what has to stand there, and what is claimed of it then
needed : (part : Part) (file : Option (List ℕ)) (denial : Denial) (next : List ℕ → Checked Denial) (Claimed : Saying → Saying) → ((bytes : List ℕ) → file ≡ Some bytes → Meets part (next bytes) Claimed)
    → Meets part (need file denial >>= next) (λ Rest. Claim (file ≢ None) (Denied denial.0 part denial.1) (Claimed Rest))
needed part None denial next Claimed there w Rest rest = inr (λ some. some refl, refl)
needed part (Some bytes) denial next Claimed there w Rest rest = inl (λ none. absurd (cc), there bytes refl w Rest rest)

-- a check and the next
followed : (part : Part) (first next : Checked Denial) (Claimed : Saying → Saying) → Meets part first Claimed → (w : AuditVerdict) (Rest : Saying) → (first ≡ Ok tt → Rest (behind part next w)) → Claimed Rest (behind part (first >>= (λ _. next)) w)
followed part (Ok u) next Claimed meets w Rest rest = meets (behind part next w) Rest rest
followed part (Err denial) next Claimed meets w Rest rest = meets w Rest (λ e. absurd (cc))

first_there : {X : Type 0} (x : X) (xs : List X) → Contains (x ∷ xs) x
first_there x xs = (0, omega arith, refl)

each_meets : {X : Type 0} (part : Part) (check : X → Checked Denial) (Claimed : X → Saying → Saying) (xs : List X) → ((x : X) → Contains xs x → Meets part (check x) (Claimed x)) → Meets part (each check xs) (Each Claimed xs)
each_meets part check Claimed [] meets w Rest rest = rest refl
each_meets part check Claimed (x ∷ xs) meets w Rest rest =
    followed part (check x) (each check xs) (Claimed x) (meets x (first_there x xs)) w (Each Claimed xs Rest)
    (λ ok. each_meets part check Claimed xs (λ y at. meets y (Contains-cons x xs y at)) w Rest (λ all. rest (ok_then (check x) (each check xs) ok all)))

-- ---- files

module _ (part : Part) (q : QuestionValue) (files : Files) where
  module _ (x : Candidate) where
    abbrev proof_needed : Checked Denial
    proof_needed = need (files (file_of Lrat part x)) (ProofMissing, x) >>= (λ proof. refuse (not (is_refutation (formula_for q x) proof)) (ProofRefused, x))

    abbrev TextClaim : Saying → Saying
    TextClaim = Claim (files (file_of Cnf part x) ≡ Some (cnf_text (formula_for q x))) (Denied CnfDiffers part x)

    abbrev ProofClaim : Saying → Saying
    ProofClaim Rest = Claim (files (file_of Lrat part x) ≢ None) (Denied ProofMissing part x) (Claim (HasRefutation part q files x) (Denied ProofRefused part x) Rest)

    refutation_meets : Meets part (refutation_checked part q files x) (RefutationClaim part q files x)
    refutation_meets =
        let text = cnf_text (formula_for q x) in
        needed part (files (file_of Cnf part x)) (ProofMissing, x) (λ formula. refuse (not (bytes_eq formula text)) (CnfDiffers, x) >>= (λ _. proof_needed)) (λ Rest. TextClaim (ProofClaim Rest)) (λ formula there w Rest rest.
        let same = bytes_eq-Decides formula text in
        let test = refuse (not (bytes_eq formula text)) (CnfDiffers, x) in
        followed part test proof_needed TextClaim
        (tested part (bytes_eq formula text) (files (file_of Cnf part x) ≡ Some text) (CnfDiffers, x) (λ e. there ∙ ap (λ b. Some b) (same.0 e), λ e. same.1 (let both = sym there ∙ e in cc))) w (ProofClaim Rest) (λ ok.
        needed part (files (file_of Lrat part x)) (ProofMissing, x) (λ proof. refuse (not (is_refutation (formula_for q x) proof)) (ProofRefused, x)) (Claim (HasRefutation part q files x) (Denied ProofRefused part x)) (λ proof at.
        let good = is_refutation (formula_for q x) proof in
        let checked : refutation_checked part q files x ≡ refuse (not good) (ProofRefused, x) = rw (there, ok, at) refl in
        tested part good (HasRefutation part q files x) (ProofRefused, x)
        (λ e. has_refutation part q files x (checked ∙ not_refused good (ProofRefused, x) e), λ has. refused_not good (ProofRefused, x) (sym checked ∙ passes_refutation part q files x has)))
        w Rest (λ passed. rest (ok_then test proof_needed ok passed))))

  -- of a candidate that is cut away nothing is claimed
  refuted_meets : (xs : List Candidate) → Meets part (each (refuted_checked part q files) xs) (Each (RefutationClaim part q files) (filter (λ x. not (is_cut_away q x)) xs))
  refuted_meets [] w Rest rest = rest refl
  refuted_meets (x ∷ xs) w Rest rest = by_cut (λ more. refuted_meets xs w Rest more) (is_cut_away q x) rest
    where
      later : Checked Denial
      later = each (refuted_checked part q files) xs

      others : List Candidate
      others = filter (λ y. not (is_cut_away q y)) xs

      by_cut : ((later ≡ Ok tt → Rest w) → Each (RefutationClaim part q files) others Rest (behind part later w)) → (b : Bool) → ((if b then Ok tt else refutation_checked part q files x) >>= (λ _. later) ≡ Ok tt → Rest w)
          → Each (RefutationClaim part q files) (if not b then x ∷ others else others) Rest (behind part ((if b then Ok tt else refutation_checked part q files x) >>= (λ _. later)) w)
      by_cut further true more = further more
      by_cut further false more =
          followed part (refutation_checked part q files x) later (RefutationClaim part q files x) (refutation_meets x) w (Each (RefutationClaim part q files) others Rest)
          (λ ok. further (λ all. more (ok_then (refutation_checked part q files x) later ok all)))

  log_meets : (u : UnknownValue) → u.conflicts ≡ q.limits.conflicts → Meets part (unknown_checked part q files u) (LogClaim part q files u)
  log_meets u stated =
      needed part (files (file_of Partial part u.candidate)) (ProofMissing, u.candidate) (λ bytes. refuse (not (is_spent_log (formula_for q u.candidate) u.conflicts bytes)) (PartialRefused, u.candidate)) (Claim (HasLog part q files u) (Denied PartialRefused part u.candidate))
      (λ bytes there.
      let good = is_spent_log (formula_for q u.candidate) u.conflicts bytes in
      let checked : unknown_checked part q files u ≡ refuse (not good) (PartialRefused, u.candidate) = rw there refl in
      tested part good (HasLog part q files u) (PartialRefused, u.candidate)
      (λ e. has_log_of part q files u stated (checked ∙ not_refused good (PartialRefused, u.candidate) e), λ has. refused_not good (PartialRefused, u.candidate) (sym checked ∙ passes_log part q files u stated has)))

-- ---- candidates

module _ (part : Part) (f : FrontierValue) where
  -- the first of a list that is not answered
  record FirstOf (xs : List Candidate) (x : Candidate) : Type 0 where
    there : Contains xs x
    missing : IsAnswered f x → ⊥
    first : (y : Candidate) → Contains xs y → Before y x → IsAnswered f y

  member_cases : (x : Candidate) (xs : List Candidate) (y : Candidate) → Contains (x ∷ xs) y → (x ≡ y) ⊎ Contains xs y
  member_cases x xs y at = ⊎_elim (λ front. ⊎_elim (λ none. absurd (omega (arith, none.1))) (λ same. inl same) (Contains-push_cases [] x y front)) (λ rest. inr rest) (Contains-append_cases (x ∷ []) xs y at)

  abbrev Answered : Candidate → Saying → Saying
  Answered x = Claim (IsAnswered f x) (Denied CandidateMissing part x)

  answers : (xs : List Candidate) → AllPairs Before xs → (Rest : Saying) (v : AuditVerdict) → Each Answered xs Rest v
      → (((y : Candidate) → Contains xs y → IsAnswered f y) × Rest v) ⊎ ((x : Candidate) × (FirstOf xs x × (v ≡ Denied CandidateMissing part x)))
  answers [] order Rest v said = inl (λ y at. absurd (omega (arith, at.1)), said)
  answers (x ∷ xs) order Rest v (inl here) = elim (answers xs (pairs_tail Before x xs order) Rest v here.1) [
    | inl all ↦ inl (λ y at. ⊎_elim (λ same. subst (IsAnswered f) same here.0) (λ at. all.0 y at) (member_cases x xs y at), all.1)
    | inr late ↦ inr (
      late.0,
      (
        record {
          there = Contains-cons x xs late.0 late.1.0.there;
          missing = late.1.0.missing;
          first = λ y at before. ⊎_elim (λ same. subst (IsAnswered f) same here.0) (λ at. late.1.0.first y at before) (member_cases x xs y at);
        },
        late.1.1,
      ),
    )
  ]
  answers (x ∷ xs) order Rest v (inr past) = inr (
    x,
    (
      record {
        there = first_there x xs;
        missing = past.0;
        first = λ y at before. ⊎_elim (λ same. absurd (Before-irrefl x (subst (λ z. Before z x) (sym same) before))) (λ at. absurd (candidates_apart x y (All-contains (Before x) xs y (pairs_head Before x xs order) at) before)) (member_cases x xs y at);
      },
      past.1,
    ),
  )

  answer_meets : (q : QuestionValue) → Meets part (each (candidate_checked f) (candidates_within q)) (AnswerClaim part q f)
  answer_meets q w Rest rest = elim (answers (candidates_within q) (within_ascends q) Rest _ (each_meets part (candidate_checked f) Answered (candidates_within q) (λ x at. tested part (is_answered f x) (IsAnswered f x) (CandidateMissing, x) (answered_decides f x)) w Rest rest)) [
    | inl all ↦ inl (λ x within. all.0 x ((candidates_exactly q x).1 within), all.1)
    | inr late ↦ inr (
      late.0,
      (
        record {
          within = (candidates_exactly q late.0).0 late.1.0.there;
          missing = late.1.0.missing;
          first = λ y within before. late.1.0.first y ((candidates_exactly q y).1 within) before;
        },
        late.1.1,
      ),
    )
  ]

-- ---- a part

module _ (part : Part) (q : QuestionValue) (files : Files) (f : FrontierValue) (valid : IsFrontier q f) where
  abbrev PointClaim : PointValue → Saying → Saying
  PointClaim p = Claim (IsSolvedBy q p.candidate p.schedule) (Denied ScheduleWrong part p.candidate)

  abbrev MarkClaim : PointValue → Saying → Saying
  MarkClaim p = Claim (IsPoint q f.refuted p) (Denied MarkWrong part p.candidate)

  point_meets : (p : PointValue) → Contains f.points p → Meets part (point_checked q p) (PointClaim p)
  point_meets p at =
      let point = All-contains (report.IsPrintedPoint q) f.points p valid.points at in
      tested part (is_solution q p) (IsSolvedBy q p.candidate p.schedule) (ScheduleWrong, p.candidate) (solved_by q p point.has, by_solution q p)

  mark_meets : each (point_checked q) f.points ≡ Ok tt → (p : PointValue) → Contains f.points p → Meets part (mark_checked q f p) (MarkClaim p)
  mark_meets solved p at =
      let point = All-contains (report.IsPrintedPoint q) f.points p valid.points at in
      let solves = refused_not (is_solution q p) (ScheduleWrong, p.candidate) (All-contains (λ p. point_checked q p ≡ Ok tt) f.points p (each_ok (point_checked q) f.points solved) at) in
      let optimal = is_optimal q f p.candidate in
      let decides = optimal_decides q f p.candidate in
      tested part (is_mark optimal p.mark) (IsPoint q f.refuted p) (MarkWrong, p.candidate) (
        λ e. let marked = mark_by optimal p.mark e in record {
          within = point.within;
          solves = solved_by q p point.has solves;
          optimal = (λ e. decides.0 (marked.0.0 e), λ h. marked.0.1 (decides.1 h));
          or_open = marked.1;
        },
        λ h. by_mark optimal p.mark (λ e. decides.1 (h.optimal.0 e), λ e. h.optimal.1 (decides.0 e)) h.or_open,
      )

  frontier_meets : (w : AuditVerdict) (Rest : Saying) → Rest w → FrontierClaim part q files f Rest (behind part (frontier_checked part q files f) w)
  frontier_meets w Rest rest =
      let marks = each (mark_checked q f) f.points in
      let candidates = each (candidate_checked f) (candidates_within q) in
      let unknown = each (unknown_checked part q files) f.unknown in
      let refuted = each (refuted_checked part q files) f.refuted in
      let Marks : Saying = Each MarkClaim f.points Rest in
      let Answers : Saying = AnswerClaim part q f Marks in
      let Logs : Saying = Each (LogClaim part q files) f.unknown Answers in
      followed part (each (point_checked q) f.points) (refuted >>= (λ _. unknown >>= (λ _. candidates >>= (λ _. marks)))) (Each PointClaim f.points) (each_meets part (point_checked q) PointClaim f.points point_meets) w (Each (RefutationClaim part q files) (filter (λ x. not (is_cut_away q x)) f.refuted) Logs) (λ solved.
      followed part refuted (unknown >>= (λ _. candidates >>= (λ _. marks))) (Each (RefutationClaim part q files) (filter (λ x. not (is_cut_away q x)) f.refuted)) (refuted_meets part q files f.refuted) w Logs (λ _.
      followed part unknown (candidates >>= (λ _. marks)) (Each (LogClaim part q files) f.unknown)
      (each_meets part (unknown_checked part q files) (LogClaim part q files) f.unknown (λ u at. let is = All-contains (IsUnknown q) f.unknown u valid.unknown at in log_meets part q files u is.conflicts)) w Answers (λ _.
      followed part candidates marks (AnswerClaim part q f) (answer_meets part f q) w Marks (λ _.
      each_meets part (mark_checked q f) MarkClaim f.points (mark_meets solved) w Rest (λ _. rest)))))

-- ---- what is joined

first_same : {X : Type 0} (x y : X) (xs ys : List X) → x ∷ xs ≡ y ∷ ys → x ≡ y
first_same x y xs ys e = cc

joins_claimed : (t : TopologyValue) (pairs : List (PointValue × PointValue)) (ps : List PointValue) → All (IsSummable t) ps → JoinsClaim t pairs ps (behind part.Joined (joins_checked t pairs ps) Verified)
joins_claimed t [] [] ok = refl
joins_claimed t [] (p ∷ ps) ok = refl
joins_claimed t (pair ∷ pairs) [] ok = refl
joins_claimed t (pair ∷ pairs) (p ∷ ps) ok =
    let due = join_of pair.0 pair.1 in
    let passes = is_join t pair && same_point due p in
    let test = refuse (not passes) (JoinWrong, due.candidate) in
    let alone : All (IsSummable t) (p ∷ []) = All-cons (IsSummable t) p [] (All-head (IsSummable t) p ps ok) (All-nil (IsSummable t)) in
    followed part.Joined test (joins_checked t pairs ps) (Claim (IsJoin t pair × (p ≡ due)) (Denied JoinWrong part.Joined due.candidate))
    (tested part.Joined passes (IsJoin t pair × (p ≡ due)) (JoinWrong, due.candidate) (
      λ e. let are = are_joined t (pair ∷ []) (p ∷ []) alone (ok_then test (Ok tt) (not_refused passes (JoinWrong, due.candidate) e) refl) in (All-head (IsJoin t) pair [] are.summed, first_same p due [] [] are.in_order),
      λ h.
          let are : AreJoined t (pair ∷ []) (p ∷ []) = record { in_order = ap (λ x. x ∷ []) h.1; summed = All-cons (IsJoin t) pair [] h.0 (All-nil (IsJoin t)) } in
          refused_not passes (JoinWrong, due.candidate) (let both = then_ok test (Ok tt) (joined_are t (pair ∷ []) (p ∷ []) alone are) in both.0),
    ))
    Verified (JoinsClaim t pairs ps) (λ _. joins_claimed t pairs ps (All-tail (IsSummable t) p ps ok))

two_parts : (k : Kind) → part.Reduce ∷ part.Gather ∷ [] ≡ parts_of k → k ≡ kind.Allreduce
two_parts kind.Allreduce e = refl
two_parts _ e = absurd (cc)

joined_verdict : (checked : Checked Denial) → behind part.Joined checked Verified ≡ verdict_from (in_part part.Joined checked)
joined_verdict (Ok u) = refl
joined_verdict (Err denial) = refl

joined_claimed : (r : ReportValue) (xs : List (Part × FrontierValue)) → map (λ x. x.0) xs ≡ parts_of r.words.collective.kind → (r.words.collective.kind ≡ kind.Allreduce → All (IsSummable r.topology.topology) r.joined) → JoinedClaim r xs (verdict_from (joined_checked r xs))
joined_claimed r ((part.Reduce, f) ∷ (part.Gather, h) ∷ []) parts ok =
    let pairs = pairs_of f.points h.points in
    subst (JoinsClaim r.topology.topology pairs r.joined) (joined_verdict (joins_checked r.topology.topology pairs r.joined))
    (joins_claimed r.topology.topology pairs r.joined (ok (two_parts r.words.collective.kind parts)))
joined_claimed r _ parts ok = refl

-- ---- a report

-- a part, others and what is joined
part_followed : (part : Part) (first : Checked Denial) (others last : Checked (Part × Denial)) (Claimed : Saying → Saying) (Rest : Saying) → ((w : AuditVerdict) → Rest w → Claimed Rest (behind part first w)) → Rest (verdict_from (others >>= (λ _. last)))
    → Claimed Rest (verdict_from ((in_part part first >>= (λ _. others)) >>= (λ _. last)))
part_followed part (Ok u) others last Claimed Rest meets rest = meets (verdict_from (others >>= (λ _. last))) rest
part_followed part (Err denial) others last Claimed Rest meets rest = meets (verdict_from (others >>= (λ _. last))) rest

module _ (r : ReportValue) (files : Files) where
  abbrev PartClaim : Part × FrontierValue → Saying → Saying
  PartClaim x = FrontierClaim x.0 (question_of r.words r.topology x.0) files x.1

  parts_claimed : (xs : List (Part × FrontierValue)) → All (λ x. IsFrontier (question_of r.words r.topology x.0) x.1) xs → (last : Checked (Part × Denial)) (Rest : Saying) → Rest (verdict_from last) → Each PartClaim xs Rest (verdict_from (each (part_checked r files) xs >>= (λ _. last)))
  parts_claimed [] valid last Rest h = h
  parts_claimed (x ∷ xs) valid last Rest h =
      let q = question_of r.words r.topology x.0 in
      part_followed x.0 (frontier_checked x.0 q files x.1) (each (part_checked r files) xs) last (PartClaim x) (Each PartClaim xs Rest)
      (λ w rest. frontier_meets x.0 q files x.1 (All-head (λ y. IsFrontier (question_of r.words r.topology y.0) y.1) x xs valid) w (Each PartClaim xs Rest) rest)
      (parts_claimed xs (All-tail (λ y. IsFrontier (question_of r.words r.topology y.0) y.1) x xs valid) last Rest h)

  pub audit_decides : IsReport r → IsVerdict r files (audit_of r files)
  audit_decides ok = parts_claimed r.frontiers ok.frontiers (joined_checked r r.frontiers) (JoinedClaim r r.frontiers) (joined_claimed r r.frontiers ok.parts (joinable r ok))
