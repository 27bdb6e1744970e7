-- What reading the JSON of a report answers: the first check that fails. This project's own.
use Rattle.std.specs.Prelude.{ℕ, List, Result}
use Rattle.text_lines.specs.Check.{◌>>=◌}
use Rattle.report_form.specs.{Reports.ReportValue, Reading.report_of}
use Rattle.json_values.specs.{declared.fault.JsonCode.JsonCode, Answer.{text_of_json, of_json, of_text}}
use Rattle.json_rules.specs.ReportJson.{report_text_in}

-- the report whose text the JSON stands for
abbrev pub report_of_json : List ℕ → Result ReportValue (JsonCode × ℕ)
report_of_json bytes = do
  text ← of_json (text_of_json report_text_in bytes)
  of_text (report_of text)
