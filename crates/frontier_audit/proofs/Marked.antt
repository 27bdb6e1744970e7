-- The checks of candidates and of marks pass exactly where all are answered and the marks are right.
use Rattle.std.proofs.{Common.{arith, ◌≡◌, Bool, true, List, ◌⊎◌, ◌||◌, ◌↔◌, not, Any, Contains, Decides}, lemmas.{List.{Elements.All-contains, Folds.{Any-from_list_any, list_any-from_Any}}}}
use Rattle.std.{proofs.lemmas.List.Sums.{AllPass-from_list_all, list_all-from_AllPass}, specs.List.list_any}
use Rattle.candidate_order.specs.{declared.{candidate.Candidate.Candidate, mark.Mark.Mark}, Costs.{NoWorse, Better}, Frontiers.{QuestionValue, PointValue, FrontierValue, IsWithin, IsAnswered}}
use Rattle.candidate_order.specs.declared.mark.Mark.TheVariants as mark
use Rattle.report_form.{specs.Tests.{is_better, is_no_worse}, proofs.Tested.{decides_no_worse, decides_better}}
use Rattle.frontier_audit.{specs.{Candidates.{is_listed, candidates_within}, Solutions.is_optimal, inner.Steps.{is_answered, is_mark}}, proofs.Tried.{listed_contains, contains_listed, within_listed, each_within}}

-- ---- answers

settled_decides : (ps : List PointValue) (x : Candidate) → Decides (list_any (λ p. is_no_worse p.candidate x) ps) (Any (λ p. NoWorse p.candidate x) ps)
settled_decides ps x = grind (arith, Any-from_list_any, decides_no_worse, list_any-from_Any)

pub answered_decides : (f : FrontierValue) (x : Candidate) → Decides (is_answered f x) (IsAnswered f x)
answered_decides f x = grind (arith, settled_decides, listed_contains, contains_listed)

-- ---- marks

abbrev pub AllBetterRefuted : QuestionValue → FrontierValue → Candidate → Type 0
AllBetterRefuted q f x = (y : Candidate) → IsWithin q y → Better y x → Contains f.refuted y

implies : (b l : Bool) → (b ≡ true → l ≡ true) → (not b || l) ≡ true
implies b l h = grind arith

pub optimal_decides : (q : QuestionValue) (f : FrontierValue) (x : Candidate) → Decides (is_optimal q f x) (AllBetterRefuted q f x)
optimal_decides q f x = (one_way, back)
  where
    one_way : is_optimal q f x ≡ true → AllBetterRefuted q f x
    one_way e y w b =
        let passes = All-contains (λ (z : Candidate). (not (is_better z x) || is_listed f.refuted z) ≡ true) (candidates_within q) y (AllPass-from_list_all (λ z. not (is_better z x) || is_listed f.refuted z) (candidates_within q) e) (listed_contains (candidates_within q) y (within_listed q y w)) in
        listed_contains f.refuted y (grind arith)

    back : AllBetterRefuted q f x → is_optimal q f x ≡ true
    back h = list_all-from_AllPass (λ z. not (is_better z x) || is_listed f.refuted z) (candidates_within q)
        (λ k d low. let w = each_within q k d low in implies _ _ (λ b. contains_listed f.refuted _ (h _ w ((decides_better _ x).0 b))))

pub mark_by : (b : Bool) (m : Mark) → is_mark b m ≡ true → ((m ≡ mark.Optimal) ↔ (b ≡ true)) × ((m ≡ mark.Optimal) ⊎ (m ≡ mark.Open))
mark_by b m e = grind arith

pub by_mark : (b : Bool) (m : Mark) → (m ≡ mark.Optimal) ↔ (b ≡ true) → (m ≡ mark.Optimal) ⊎ (m ≡ mark.Open) → is_mark b m ≡ true
by_mark b m h o = grind arith
