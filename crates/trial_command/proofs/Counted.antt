-- Two right reports of one search that leave nothing unknown count as many points and as many refuted candidates.
use Rattle.std.proofs.{Common.{◌≡◌, ℕ, ◌+◌, List, [], ◌∷◌, map, length, refl, sym, ap, ◌∙◌, subst, arith, sum_by, All}, lemmas.List.{Sums.sum_by-cons, length-map, nil_from_length, Elements.{All-nil, All-cons, All-head, All-tail}}}
use Rattle.outer_ports.specs.declared.part.Part.{Part}
use Rattle.candidate_order.{specs.Frontiers.{FrontierValue, PointValue, RightFrontier, Searched, solved}, proofs.Settled.{same_points, same_refuted}}
use Rattle.topology_text.specs.Value.{NamedTopologyValue}
use Rattle.report_form.specs.Reports.{WordsValue, ReportValue, IsFrontier, parts_of, question_of}
use Rattle.frontier_audit.specs.Rights.{IsRight, IsSearched}
use Rattle.run_rules.specs.{Trials.trial_words, Tries.Tries}
use Rattle.trial_command.specs.Counts.{points_in, refuted_in, unknown_in, trial_topology}

-- a part of a report in which everything is settled
record IsSettledPart (w : WordsValue) (t : NamedTopologyValue) (x : Part × FrontierValue) : Type 0 where
  right : RightFrontier (question_of w t x.0) x.1
  searched : Searched (question_of w t x.0) x.1
  frontier : IsFrontier (question_of w t x.0) x.1
  none : x.1.unknown ≡ []

abbrev SameCounts : List (Part × FrontierValue) → List (Part × FrontierValue) → Type 0
SameCounts xs ys = (sum_by (λ x. length x.1.points) xs ≡ sum_by (λ x. length x.1.points) ys) × (sum_by (λ x. length x.1.refuted) xs ≡ sum_by (λ x. length x.1.refuted) ys)

none_unknown : (xs : List (Part × FrontierValue)) → sum_by (λ x. length x.1.unknown) xs ≡ 0 → All (λ x. x.1.unknown ≡ []) xs
none_unknown [] e = All-nil (λ x. x.1.unknown ≡ [])
none_unknown (x ∷ xs) e =
    let both : length x.1.unknown + sum_by (λ y. length y.1.unknown) xs ≡ 0 = sym (sum_by-cons (λ y. length y.1.unknown) x xs) ∙ e in
    All-cons (λ y. y.1.unknown ≡ []) x xs (nil_from_length x.1.unknown (omega (arith, both))) (none_unknown xs (omega (arith, both)))

one_more : (f : Part × FrontierValue → ℕ) (x y : Part × FrontierValue) (xs ys : List (Part × FrontierValue)) → f x ≡ f y → sum_by f xs ≡ sum_by f ys → sum_by f (x ∷ xs) ≡ sum_by f (y ∷ ys)
one_more f x y xs ys here rest = sum_by-cons f x xs ∙ (ap (λ n. n + sum_by f xs) here ∙ (ap (λ n. f y + n) rest ∙ sym (sum_by-cons f y ys)))

point_count : (f g : FrontierValue) → solved f ≡ solved g → length f.points ≡ length g.points
point_count f g same = sym (length-map f.points (λ (p : PointValue). p.candidate)) ∙ (ap length same ∙ length-map g.points (λ (p : PointValue). p.candidate))

one_part : (w : WordsValue) (t : NamedTopologyValue) (part : Part) (f g : FrontierValue) → IsSettledPart w t (part, f) → IsSettledPart w t (part, g) → (length f.points ≡ length g.points) × (length f.refuted ≡ length g.refuted)
one_part w t part f g a b = (
  point_count f g (same_points (question_of w t part) f g a.right a.searched b.right b.searched a.none b.none),
  ap length (same_refuted (question_of w t part) f g a.right a.searched b.right b.searched a.frontier.refuted b.frontier.refuted a.none b.none),
)

same_counts : (w : WordsValue) (t : NamedTopologyValue) (xs ys : List (Part × FrontierValue)) → map (λ x. x.0) xs ≡ map (λ y. y.0) ys → All (IsSettledPart w t) xs → All (IsSettledPart w t) ys → SameCounts xs ys
same_counts w t [] [] parts a b = (refl, refl)
same_counts w t [] (y ∷ ys) parts a b = absurd (cc)
same_counts w t (x ∷ xs) [] parts a b = absurd (cc)
same_counts w t (x ∷ xs) (y ∷ ys) parts a b =
    let part : x.0 ≡ y.0 = cc in
    let others : map (λ z. z.0) xs ≡ map (λ z. z.0) ys = cc in
    let here = one_part w t y.0 x.1 y.1 (subst (λ p. IsSettledPart w t (p, x.1)) part (All-head (IsSettledPart w t) x xs a)) (All-head (IsSettledPart w t) y ys b) in
    let rest = same_counts w t xs ys others (All-tail (IsSettledPart w t) x xs a) (All-tail (IsSettledPart w t) y ys b) in
    (one_more (λ z. length z.1.points) x y xs ys here.0 rest.0, one_more (λ z. length z.1.refuted) x y xs ys here.1 rest.1)

-- the parts of a right report that leaves nothing unknown
settled_parts : (r : ReportValue) (w : WordsValue) (t : NamedTopologyValue) → r.words ≡ w → r.topology ≡ t → IsRight r → IsSearched r → unknown_in r ≡ 0 → All (IsSettledPart w t) r.frontiers
settled_parts r w t words topology right searched none =
    subst (λ v. All (IsSettledPart v t) r.frontiers) words (subst (λ v. All (IsSettledPart r.words v) r.frontiers) topology (λ k d low. record {
      right = right.parts k d low;
      searched = searched.parts k d low;
      frontier = right.valid.frontiers k d low;
      none = none_unknown r.frontiers none k d low;
    }))

pub same_trials : (n : ℕ) (a b : List ℕ) (first : Tries n a) (second : Tries n b) → unknown_in first.report ≡ 0 → unknown_in second.report ≡ 0
    → (points_in first.report ≡ points_in second.report) × (refuted_in first.report ≡ refuted_in second.report)
same_trials n a b first second none_first none_second =
    same_counts (trial_words n) (trial_topology n) first.report.frontiers second.report.frontiers
    (first.right.valid.parts ∙ (ap (λ (v : WordsValue). parts_of v.collective.kind) (first.words ∙ sym second.words) ∙ sym second.right.valid.parts))
    (settled_parts first.report (trial_words n) (trial_topology n) first.words first.topology first.right first.searched none_first)
    (settled_parts second.report (trial_words n) (trial_topology n) second.words second.topology second.right second.searched none_second)
