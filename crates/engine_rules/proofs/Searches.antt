-- Searches that are the same.
use Rattle.std.proofs.Common.{refl, ◌∙◌}
use Rattle.engine_rules.specs.declared.engine.EngineView as view
use Rattle.engine_rules.specs.Searches.{IsSameSearch}

pub same_refl : {E : Type 0} {V : view.Ghosts E} {e : E} → IsSameSearch V e V e
same_refl = record { question = refl; formula = λ x. refl; suits = λ x s. (λ has. has, λ has. has) }

pub same_trans : {C D E : Type 0} {U : view.Ghosts C} {V : view.Ghosts D} {W : view.Ghosts E} {a : C} {b : D} {c : E} → IsSameSearch U a V b → IsSameSearch V b W c → IsSameSearch U a W c
same_trans first second = record {
  question = second.question ∙ first.question;
  formula = λ x. second.formula x ∙ first.formula x;
  suits = λ x s. (λ has. (first.suits x s).0 ((second.suits x s).0 has), λ has. (second.suits x s).1 ((first.suits x s).1 has));
}
