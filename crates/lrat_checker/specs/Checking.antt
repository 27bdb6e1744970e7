-- A checker by its parts.
use Rattle.std.specs.Prelude.{◌≡◌, ℕ, ◌≤◌, max, Bool, [], length, take}
use Rattle.proof_rules.specs.{Held.CheckerValue, Refuting.IsChecker}
use Rattle.lrat_checker.specs.{inner.Marking.MarksValue, Stored.TableValue}

-- the first clauses of the table are the formula's
abbrev pub checker_of : TableValue → ℕ → ℕ → Bool → CheckerValue
checker_of table originals greatest refuted = record {
  formula = record { vars = table.vars; clauses = take originals table.clauses };
  held = table.held;
  greatest = greatest;
  refuted = refuted;
}

-- nothing is marked, numbers go on behind the last, and accepted lines led here
pub record CanCheck (table : TableValue) (marks : MarksValue) (originals greatest : ℕ) (refuted : Bool) : Type 0 where
  pub unmarked : marks.falses ≡ []
  pub same : marks.vars ≡ table.vars
  pub many : originals ≤ length table.clauses
  pub last : table.last ≤ max originals greatest
  pub checker : IsChecker (checker_of table originals greatest refuted)
