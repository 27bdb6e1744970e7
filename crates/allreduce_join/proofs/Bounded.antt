-- The rounds of a schedule are few.
use Rattle.std.{proofs.{Common.{ℕ, ◌+◌, ◌*◌, ◌≤◌, List, [], ◌∷◌, ◌++◌, length, arith, sum}, lemmas.List.{Elements.recursion_from_All, Sums.{sum_by-append, sum_by-cons}}}, specs.List.AllByRecursion}
use Rattle.schedule.specs.Sends.{ScheduleValue, IsRound, IsSchedule}
use Rattle.allreduce_join.specs.Joins.{one_after}

rounds_few : (rounds : List ℕ) → AllByRecursion IsRound rounds → sum rounds ≤ 9 * length rounds
rounds_few [] each = omega arith
rounds_few (r ∷ rounds) each = grind (arith, each.0.few, sum_by-cons (λ x. x) r rounds, rounds_few rounds each.1)

-- two schedules of which the one after the other is valid have at most 144 rounds together
pub rounds_bounded : (p q : ScheduleValue) (steps : ℕ) → IsSchedule (one_after steps p q) → sum p.rounds + sum q.rounds ≤ 144
rounds_bounded p q steps valid = grind (arith, rounds_few (p.rounds ++ q.rounds) (recursion_from_All IsRound (p.rounds ++ q.rounds) valid.rounds), sum_by-append (λ x. x) p.rounds q.rounds)
