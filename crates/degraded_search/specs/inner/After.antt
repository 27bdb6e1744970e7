-- What is found over the links that a fault left. This project's own.
use Rattle.std.specs.Prelude.{◌≡◌, not, false, List, filter, All}
use Rattle.candidate_order.specs.{declared.candidate.Candidate.Candidate, Frontiers.QuestionValue}
use Rattle.candidate_formula.specs.Pruned.{is_cut_away}
use Rattle.engine_search.specs.Found.{IsFound}
use Rattle.link_faults.specs.Carrying.{is_carried}
use Rattle.degraded_search.specs.declared.found.Found.{Found}

-- the refuted candidates that an old one carries, and the others
pub record ArePartedBy (old : List Candidate) (found : Found) : Type 0 where
  pub carried : found.carried.items ≡ filter (is_carried old) found.frontier.refuted
  pub others : found.refuted.items ≡ filter (λ x. not (is_carried old x)) found.frontier.refuted

-- the frontier is what a search finds, and what an old candidate carries, or the question has cut away, is refuted
pub record IsFoundAfter (q : QuestionValue) (old : List Candidate) (after : Found) : Type 0 where
  pub found : IsFound q after.frontier
  pub points : All (λ p. is_carried old p.candidate ≡ false) after.frontier.points
  pub unknown : All (λ u. is_carried old u.candidate ≡ false) after.frontier.unknown
  pub uncut : All (λ u. is_cut_away q u.candidate ≡ false) after.frontier.unknown
  pub parted : ArePartedBy old after
