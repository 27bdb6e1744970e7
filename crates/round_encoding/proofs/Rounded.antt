-- The counter of extra rounds, in the order in which it is made.
use Rattle.std.{proofs.{Common.{◌≡◌, ℕ, ◌+◌, ◌*◌, ◌<◌, ◌≤◌, List, length, map, arith}, lemmas.List.FromFn.length-map-range_with_len}, specs.List.range_with_len}
use Rattle.cnf_formula.specs.{Literals.LitValue, Formulas.IsClause}
use Rattle.cardinality.proofs.Wider.{clause_more}
use Rattle.send_encoding.proofs.Grid.{rows_length}
use Rattle.round_encoding.{specs.{Frames.{Frame, extra_round, own_variables}, Rounding.count_of_rounds}, proofs.Counted.rounds_counted}

module _ (f : Frame) where
  pub extra_length : length (count_of_rounds f).inputs ≡ f.map.steps * f.extra
  extra_length = rows_length (λ s. map (extra_round f s) (range_with_len 1 f.extra)) f.extra 1 f.map.steps (λ s. length-map-range_with_len (extra_round f s) 1 f.extra)

  -- the variables that the counter may take
  pub same_space : (before bound : ℕ) (ys : List LitValue) → ys ≡ (count_of_rounds f).inputs → bound ≡ f.extra → before + length ys * (bound + 1) ≡ before + f.map.steps * f.extra * (f.extra + 1)
  same_space before bound ys same is = grind (arith, extra_length)

  pub extra_some : 0 < f.map.steps → 0 < f.extra → 0 < length (count_of_rounds f).inputs
  extra_some steps extra = (rounds_counted f steps extra).some

  pub extra_inputs_about : (v : ℕ) → own_variables f ≤ v → 0 < f.map.steps → 0 < f.extra → IsClause v (count_of_rounds f).inputs
  extra_inputs_about v le steps extra = clause_more (own_variables f) v (count_of_rounds f).inputs le (rounds_counted f steps extra).about
