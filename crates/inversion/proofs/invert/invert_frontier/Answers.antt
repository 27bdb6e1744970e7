use Rattle.std.proofs.{Common.{◌≡◌, ◌∙◌, ℕ, List, map, take, sym, ap, subst}, lemmas.List.take_all}
use Rattle.candidate_order.specs.{declared.candidate.Candidate.Candidate, Frontiers.{FrontierValue, PointValue, UnknownValue, RightFrontier, Searched}}
use Rattle.inversion.{specs.Inverted.{inverted_frontier, inverted_point}, proofs.Reducing.{reduction_right, reduction_searched}}
use Rattle.inversion.proofs.invert.invert_frontier.Goals as goal

pub returns : goal.returns
returns c =
    let f : FrontierValue = c.args.frontier.now in
    let made : List PointValue → List Candidate → List UnknownValue → FrontierValue = λ p r u. record { points = p; refuted = r; unknown = u } in
    let given_up : Candidate → ℕ → UnknownValue = λ x n. record { candidate = x; conflicts = n } in
    let refuted : c.in_ok-refuted.refuted.items ≡ f.refuted = c.in_ok-refuted.ensures.items_if_clones_equal (λ x y e. e) ∙ c.refuted.ensures in
    let unknown : c.in_ok-unknown.unknown.items ≡ f.unknown = c.in_ok-unknown.ensures.items_if_clones_equal (λ x y e. sym e.3 ∙ (ap (λ (k : Candidate). given_up k e.1.conflicts) e.4.0 ∙ (ap (given_up e.0.candidate) e.4.1 ∙ e.2))) ∙ c.unknown.ensures in
    let all : take c.loop-point.point-index c.points-point-items.result.now ≡ f.points = take_all c.loop-point.point-index c.points-point-items.result.now c.loop-point-test.false ∙ c.points-point-items.ensures in
    let points : c.loop-point.points.items ≡ map inverted_point f.points = c.loop-point.invariant ∙ ap (map inverted_point) all in
    let is : c.new.result ≡ inverted_frontier f =
    c.new.ensures ∙ (ap (λ p. made p c.in_ok-refuted.refuted.items c.in_ok-unknown.unknown.items) points ∙ (ap (λ r. made (map inverted_point f.points) r c.in_ok-unknown.unknown.items) refuted ∙ ap (made (map inverted_point f.points) f.refuted) unknown)) in
    record {
      inverted = is;
      right = λ q adds spec right searched. subst (RightFrontier q) (sym is) (reduction_right q f adds spec right searched);
      searched = λ q adds spec right searched. subst (Searched q) (sym is) (reduction_searched q f adds spec right searched);
    }
