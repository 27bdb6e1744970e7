-- Lines whose literals lie one after another in one list, and their hints in another.
use Rattle.std.specs.Prelude.{ℕ, ◌<◌, ◌≤◌, List, All, length, map, pos, slice_range}
use Rattle.cnf_formula.specs.{Literals.LitValue, Lines.ProofLineValue}
use Rattle.ledger_rules.specs.declared.line_list.LineRow.{LineRow}

abbrev pub line_in : List LitValue → List ℕ → LineRow → ProofLineValue
line_in lits hints row = record { id = row.id; lits = slice_range lits row.lits_start row.lits_end; hints = map pos (slice_range hints row.hints_start row.hints_end) }

-- the parts of a line lie in their lists
pub record Lies (lits : List LitValue) (hints : List ℕ) (row : LineRow) : Type 0 where
  pub lits_run : row.lits_start ≤ row.lits_end
  pub lits_in : row.lits_end ≤ length lits
  pub hints_run : row.hints_start ≤ row.hints_end
  pub hints_in : row.hints_end ≤ length hints

pub record AreStored (lits : List LitValue) (hints : List ℕ) (rows : List LineRow) : Type 0 where
  pub inside : All (Lies lits hints) rows
  pub few_lits : length lits < 4294967296
  pub few_hints : length hints < 4294967296
