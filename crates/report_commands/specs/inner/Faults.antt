-- Whether a report takes a fault of its links, and its search can be done. This project's own.
use Rattle.std.specs.Prelude.{ℕ, Result}
use Rattle.text_lines.specs.Check.{◌>>=◌}
use Rattle.report_form.specs.Reports.{ReportValue}
use Rattle.run_rules.specs.{Refusals.Refusal, Tasks.{fault_in, searchable}, Steps.whole_question}

-- the checks of the fault, and then of the report's search
abbrev pub refused_first : ReportValue → ℕ → ℕ → ℕ → ℕ → Result (Unit {0}) Refusal
refused_first r group group_word width width_word = do
  _ ← fault_in r group group_word width width_word
  searchable (whole_question r.words r.topology)
