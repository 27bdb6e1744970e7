use Rattle.std.proofs.Common.{[], ◌∷◌, refl}
use Rattle.proof_rules.{specs.{Held.start_of, Refuting.with_line, Examples.{eight_clauses, pair_of_eight}}, proofs.Open.nothing_falls}
use Rattle.proof_rules.proofs.vectors.exhausted_by_one_line.Goals as goal

pub returns : goal.returns
returns c = ∣ record {
  lines = pair_of_eight ∷ [];
  spent = record { count = refl; learned = refl };
  not_closed = nothing_falls (with_line (start_of eight_clauses) pair_of_eight) refl;
} ∣₁
