-- The candidates that are not refuted tell which candidates are answered, and which marks are right.
use Rattle.std.{proofs.Common.{arith, ◌≡◌, Bool, List, [], ◌∷◌, map, Option, None, Some, refl, sym, ap, ◌∙◌, ◌||◌, not}, specs.{List.{find, list_all}, Option.option_map}}
use Rattle.text_lines.specs.Check.{refuse}
use Rattle.candidate_order.specs.{declared.candidate.Candidate.Candidate, Frontiers.{QuestionValue, PointValue, UnknownValue, FrontierValue}}
use Rattle.report_form.specs.Tests.{is_better}
use Rattle.frontier_audit.specs.{inner.Steps.{answers_checked, candidate_checked, has_mark_among, is_answered, is_bettered, is_given_up, is_left_answered, is_mark, mark_checked, unrefuted_among}, Denials.{Denial, Checked, each}}
use Rattle.frontier_audit.{specs.{declared.verdict.Reason.TheVariants.{CandidateMissing, MarkWrong}, Candidates.{candidates_within, is_listed, same_candidate}, Beside.denial_of}, proofs.Walking.{first_decides, rest_decides}}

-- ---- candidates

up_any : (us : List UnknownValue) (x : Candidate) → is_given_up us x ≡ is_listed (map (λ u. u.candidate) us) x
up_any [] x = refl
up_any (u ∷ us) x = ap (λ b. same_candidate x u.candidate || b) (up_any us x)

-- the first that fails a test is the first that is refused for it
first_refused : {X C : Type 0} (test : X → Bool) (code : X → C) (xs : List X) → option_map code (find (λ x. not (test x)) xs) ≡ denial_of (each (λ x. refuse (not (test x)) (code x)) xs)
first_refused test code [] = refl
first_refused test code (x ∷ xs) = grind (arith, first_refused test code xs)

left_says : (f : FrontierValue) (xs : List Candidate) → find (λ x. not (is_left_answered f x)) (unrefuted_among f.refuted xs) ≡ find (λ x. not (is_answered f x)) xs
left_says f [] = refl
left_says f (x ∷ xs) = grind (arith, up_any, left_says f xs)

-- ---- marks

none_better : (refuted : List Candidate) (x : Candidate) (ys : List Candidate) → not (is_bettered (unrefuted_among refuted ys) x) ≡ list_all (λ y. not (is_better y x) || is_listed refuted y) ys
none_better refuted x [] = refl
none_better refuted x (y ∷ ys) = grind (arith, none_better refuted x ys)

-- ---- both

module _ (q : QuestionValue) (f : FrontierValue) (left : List Candidate) (is : left ≡ unrefuted_among f.refuted (candidates_within q)) where
  abbrev candidates : Checked Denial
  candidates = each (candidate_checked f) (candidates_within q)

  abbrev marks : Checked Denial
  marks = each (mark_checked q f) f.points

  abbrev missing : Option Denial
  missing = option_map (λ x. (CandidateMissing, x)) (find (λ x. not (is_left_answered f x)) left)

  candidates_say : missing ≡ denial_of candidates
  candidates_say = ap (option_map (λ x. (CandidateMissing, x))) (ap (find (λ x. not (is_left_answered f x))) is ∙ left_says f (candidates_within q)) ∙ first_refused (is_answered f) (λ x. (CandidateMissing, x)) (candidates_within q)

  marks_say : option_map (λ (p : PointValue). (MarkWrong, p.candidate)) (find (λ p. not (has_mark_among left p)) f.points) ≡ denial_of marks
  marks_say = first_refused (has_mark_among left) (λ p. (MarkWrong, p.candidate)) f.points
      ∙ ap (λ (test : PointValue → Bool). denial_of (each (λ (p : PointValue). refuse (not (test p)) (MarkWrong, p.candidate)) f.points)) (λ i p. is_mark ((ap (λ l. not (is_bettered l p.candidate)) is ∙ none_better f.refuted p.candidate (candidates_within q)) i) p.mark)

  pub missing_decides : (d : Denial) → Some d ≡ missing → Some d ≡ denial_of (answers_checked q f)
  missing_decides d e = sym (first_decides candidates marks d (sym (e ∙ candidates_say)))

  pub marks_decide : None ≡ missing → option_map (λ (p : PointValue). (MarkWrong, p.candidate)) (find (λ p. not (has_mark_among left p)) f.points) ≡ denial_of (answers_checked q f)
  marks_decide e = marks_say ∙ ap denial_of (sym (rest_decides candidates marks (sym (e ∙ candidates_say))))
