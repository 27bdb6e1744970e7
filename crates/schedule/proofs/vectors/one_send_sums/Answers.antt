use Rattle.std.proofs.Common.{[], ◌∷◌, refl, rules}
use Rattle.schedule.specs.Rows.{plan, send}
use Rattle.schedule.proofs.vectors.one_send_sums.Goals as goal

pub returns-clause-solvable : goal.returns-clause-solvable
returns-clause-solvable c = record {
  schedule = plan (1 ∷ []) (send 0 1 0 1 ∷ []);
  valid = search rules;
  in_range = search rules;
  sums = record { steps_are = refl; rounds_are = refl; fits = search rules; sums = search rules };
}
