-- What a search found, and its refuted candidates parted.
use Rattle.std.proofs.Common.{◌≡◌, false, List, Result, Ok, Err, sym, subst, All, IfOk}
use Rattle.candidate_order.specs.{declared.candidate.Candidate.Candidate, Frontiers.{QuestionValue, FrontierValue}}
use Rattle.candidate_formula.specs.Pruned.{is_cut_away}
use Rattle.engine_search.specs.Found.{IsFound}
use Rattle.link_faults.specs.Carrying.{is_carried}
use Rattle.degraded_search.specs.{declared.found.Found.Found, inner.After.{ArePartedBy, IsFoundAfter}}

module _ (q : QuestionValue) (old lent : List Candidate) (f : FrontierValue) (same : lent ≡ old) (found : IsFound q f) (points : All (λ p. is_carried old p.candidate ≡ false) f.points) (unknown : All (λ u. is_carried old u.candidate ≡ false) f.unknown) (uncut : All (λ u. is_cut_away q u.candidate ≡ false) f.unknown) where
  made_of : (after : Found) → after.frontier ≡ f → ArePartedBy lent after → IsFoundAfter q old after
  made_of after is parted = record {
    found = subst (IsFound q) (sym is) found;
    points = subst (λ (x : FrontierValue). All (λ p. is_carried old p.candidate ≡ false) x.points) (sym is) points;
    unknown = subst (λ (x : FrontierValue). All (λ u. is_carried old u.candidate ≡ false) x.unknown) (sym is) unknown;
    uncut = subst (λ (x : FrontierValue). All (λ u. is_cut_away q u.candidate ≡ false) x.unknown) (sym is) uncut;
    parted = subst (λ xs. ArePartedBy xs after) same parted;
  }

  pub found_after : {E : Type 0} (result : Result Found E) → IfOk result (λ after. after.frontier ≡ f) → IfOk result (ArePartedBy lent) → IfOk result (IsFoundAfter q old)
  found_after (Ok after) is parted = made_of after is parted
  found_after (Err fault) is parted = tt
