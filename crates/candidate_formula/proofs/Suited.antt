-- Schedules that have what a question asks beside solving.
use Rattle.std.proofs.Common.{subst, ◌↔◌}
use Rattle.schedule.specs.Solving.{Solvable}
use Rattle.candidate_order.{specs.{declared.candidate.Candidate.Candidate, Frontiers.{QuestionValue, IsWithin, IsSolvable, instance_for}}, proofs.Achieved.{Achievable, achieved}}
use Rattle.chunk_order.{specs.Solutions.HasOrderedSolution, proofs.Sufficing.ordered_suffice}
use Rattle.candidate_formula.{specs.{Formulas.HasSuited, Questions.IsSmallQuestion}, proofs.{Exact.tight_solves, Sought.candidate_is}}

module _ (q : QuestionValue) (x : Candidate) (small : IsSmallQuestion q) (within : IsWithin q x) where
  suited : IsSolvable q x → HasSuited q x
  suited some =
      let i = instance_for q x in
      let copied : Solvable q.topology i.pre i.post x.s x.r = subst (λ b. Achievable b q x) small.copies (achieved q x some) in
      let best : HasOrderedSolution q.topology i.pre i.post x.s x.r = (ordered_suffice q.topology i.pre i.post x.s x.r (candidate_is q x small within)).0 copied in
      record { schedule = best.schedule; solves = tight_solves q x best.schedule small.copies best.is.solution; suits = λ ordered. best.is.ordered }

  solvable : HasSuited q x → IsSolvable q x
  solvable some = (some.schedule, some.solves)

pub suited_suffice : (q : QuestionValue) (x : Candidate) → IsSmallQuestion q → IsWithin q x → IsSolvable q x ↔ HasSuited q x
suited_suffice q x small within = (suited q x small within, solvable q x small within)
