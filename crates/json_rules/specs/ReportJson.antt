-- A report as JSON (RFC 8259), and the text that JSON of this form stands for.
use Rattle.std.specs.Prelude.{ℕ, List, [], Option, option_map}
use Rattle.text_lines.specs.Text.{text_of}
use Rattle.report_form.specs.Reports.{ReportValue}
use Rattle.serde_json.specs.Data.{Data}
use Rattle.json_rules.specs.ReportForm.{report}

abbrev pub report_json : ReportValue → Data
report_json r = (report r.topology.names).json r

-- the lines that JSON of this form stands for, each as its tokens
abbrev pub report_in : Data → Option (List (List (List ℕ)))
report_in = (report []).read

-- the text of these lines
abbrev pub report_text_in : Data → Option (List ℕ)
report_text_in d = option_map text_of (report_in d)
