use Rattle.std.proofs.{Common.{arith, true, [], ◌∷◌, refl, rules}, lemmas.List.Elements.All-from_recursion}
use Rattle.schedule.specs.Rows.{line_of_2, plan, send}
use Rattle.collective_spec.specs.declared.kind.Kind.TheVariants.{Reduce}
use Rattle.candidate_order.specs.{declared.mark.Mark.TheVariants.Optimal, Frontiers.WastesNothing, Rows.{asked, smallest}}
use Rattle.candidate_order.proofs.vectors.one_send_reduces.Goals as goal

forth : WastesNothing true (asked line_of_2 Reduce) (record { candidate = smallest; schedule = plan (1 ∷ []) (send 0 1 0 1 ∷ []); mark = Optimal })
forth = (plan (1 ∷ []) (send 0 0 1 1 ∷ []), (search rules, (search rules, (search rules, refl))))

pub returns-clause-searched : goal.returns-clause-searched
returns-clause-searched c = grind (arith, All-from_recursion, forth)
