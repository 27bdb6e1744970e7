use Rattle.std.{proofs.Common.{◌≡◌, ◌+◌, ◌-◌, ◌∷◌, [], map}, specs.List.{flat_map, range_with_len}}
use Rattle.cnf_formula.specs.{Literals.negation, Formulas.with_clauses}
use Rattle.round_encoding.specs.Frames.{extra_round}
use Rattle.round_encoding.proofs.rounding.extra_in_order.Given as goal

abbrev pub invariant-loop-index : goal.invariant-loop-index
invariant-loop-index l = l.formula ≡ with_clauses l.initial.formula (flat_map (λ s. map (λ j. negation (extra_round (record { map = l.variables; extra = l.extra }) s (j + 1)) ∷ extra_round (record { map = l.variables; extra = l.extra }) s j ∷ []) (range_with_len 1 (l.extra - 1))) (range_with_len 1 l.index))

abbrev pub invariant-loop-before : goal.invariant-loop-before
invariant-loop-before l = l.formula ≡ with_clauses l.initial.formula (map (λ j. negation (extra_round (record { map = l.variables; extra = l.extra }) (l.index + 1) (j + 1)) ∷ extra_round (record { map = l.variables; extra = l.extra }) (l.index + 1) j ∷ []) (range_with_len 1 l.before))
