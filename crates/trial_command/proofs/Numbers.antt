-- The points of a report, one number after the other.
use Rattle.std.proofs.Common.{◌≡◌, arith, ℕ, zero, suc, ◌+◌, ◌-◌, ◌*◌, ◌≤◌, inl, inr, length, take, get_or, None, Some, slice_get, sym, ap, ◌∙◌, sum_by}
use Rattle.std.proofs.{Math.Seq.take-length, lemmas.{List.Sums.sum_by_more, Option.{get_or_from_slice_get, slice_get_cases, slice_get_within}}}
use Rattle.outer_ports.specs.declared.part.Part.{Part}
use Rattle.candidate_order.specs.Frontiers.{PointValue}
use Rattle.report_form.specs.{Reports.ReportValue, Numbered.{point_at, points_of}}

-- the point of a number stands at the place below
at_place : (r : ReportValue) (n : ℕ) → 1 ≤ n → point_at r n ≡ slice_get (points_of r) (n - 1)
at_place r zero some = absurd (omega arith)
at_place r (suc n) some = let below : suc n - 1 ≡ n = omega arith in ap (slice_get (points_of r)) (sym below)

-- and is one more
pub within_more : (r : ReportValue) (n m : ℕ) (x : Part × PointValue) → 1 ≤ n → m ≡ n + 1 → point_at r n ≡ Some x → m - 1 ≤ length (points_of r)
within_more r n m x some next e = let low = slice_get_within (points_of r) (n - 1) x (sym (at_place r n some) ∙ e) in omega (arith, low)

-- the sum so far, and its share
pub sum_more : (f : Part × PointValue → ℕ) (r : ReportValue) (n m a b d : ℕ) (x : Part × PointValue) → 1 ≤ n → m ≡ n + 1 → point_at r n ≡ Some x
    → a ≡ 4 * sum_by f (take (n - 1) (points_of r)) → d ≡ 4 * f x → b ≡ a + d → b ≡ 4 * sum_by f (take (m - 1) (points_of r))
sum_more f r n m a b d x some next e so_far share more =
    let at = sym (at_place r n some) ∙ e in
    let all = sum_by_more f (points_of r) (n - 1) x (slice_get_within (points_of r) (n - 1) x at) in
    let own : f (get_or (points_of r) (n - 1) x) ≡ f x = ap f (get_or_from_slice_get (points_of r) (n - 1) x x at) in
    let place : n - 1 + 1 ≡ m - 1 = omega arith in
    let total = ap (λ k. sum_by f (take k (points_of r))) (sym place) ∙ all in
    omega (arith, total, own)

-- there is no point of a number behind the last
pub all_numbered : (r : ReportValue) (n : ℕ) → 1 ≤ n → n - 1 ≤ length (points_of r) → point_at r n ≡ None → n - 1 ≡ length (points_of r)
all_numbered r n some within e =
    elim ((slice_get_cases (points_of r) (n - 1)).1) [
      | inl (x, low, at, _) ↦ absurd (let is : Some x ≡ None = sym at ∙ sym (at_place r n some) ∙ e in cc)
      | inr (past, _) ↦ omega (arith, past)
    ]

pub sum_all : (f : Part × PointValue → ℕ) (r : ReportValue) (n a : ℕ) → n - 1 ≡ length (points_of r) → a ≡ 4 * sum_by f (take (n - 1) (points_of r)) → a ≡ 4 * sum_by f (points_of r)
sum_all f r n a is so_far = so_far ∙ ap (λ k. 4 * sum_by f (take k (points_of r))) is ∙ ap (λ xs. 4 * sum_by f xs) (take-length (points_of r))
