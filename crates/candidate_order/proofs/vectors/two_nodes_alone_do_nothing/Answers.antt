use Rattle.std.proofs.{Common.{[], ◌∷◌, rules}, lemmas.List.Elements.All-from_recursion}
use Rattle.schedule.{specs.Rows.two_alone, proofs.Alone.{alone_never_solves, alone_never_sums}}
use Rattle.collective_spec.specs.declared.kind.Kind.TheVariants.{Broadcast, Reduce}
use Rattle.candidate_order.{specs.{Frontiers.IsSolvable, Rows.{asked, smallest}}, proofs.Achieved.achieved}
use Rattle.candidate_order.proofs.vectors.two_nodes_alone_do_nothing.Goals as goal

pub returns-clause-broadcast : goal.returns-clause-broadcast
returns-clause-broadcast c = record {
  single = search rules;
  points = search rules;
  refuted = All-from_recursion (λ x. IsSolvable (asked two_alone Broadcast) x → ⊥) (smallest ∷ []) ((λ some. alone_never_solves 1 1 (achieved (asked two_alone Broadcast) smallest some)), tt);
  unknown = search rules;
  whole = search rules;
}

pub returns-clause-reduce : goal.returns-clause-reduce
returns-clause-reduce c = record {
  single = search rules;
  points = search rules;
  refuted = All-from_recursion (λ x. IsSolvable (asked two_alone Reduce) x → ⊥) (smallest ∷ []) ((λ some. alone_never_sums 1 1 (achieved (asked two_alone Reduce) smallest some)), tt);
  unknown = search rules;
  whole = search rules;
}
