-- The checks that each line of a report meets first. This project's own text.
use Rattle.std.specs.Prelude.{◌-◌, not, ℕ, List, slice_get, bytes_eq, Option, None, Some, Result, Ok, Err}
use Rattle.text_lines.specs.{Text.{Row, words_of}, Check.{◌>>=◌, refuse}}
use Rattle.topology_text.specs.declared.fault.TopologyCode.{TopologyCode}
use Rattle.report_form.specs.declared.fault.ReportCode.{ReportCode, TheVariants.{BadLine, Truncated}}

-- the line is there, and a line feed ended it
abbrev pub whole_line : Option Row → Result Row ReportCode
whole_line None = Err Truncated
whole_line (Some row) = do
  _ ← refuse (not row.whole) Truncated
  Ok row

-- the tokens of the line
abbrev pub tokens_line : Option Row → Result (List (List ℕ)) ReportCode
tokens_line line = do
  row ← whole_line line
  Ok (words_of row.bytes)

-- the line is these bytes
abbrev pub fixed_line : List ℕ → Option Row → Result (Unit {0}) ReportCode
fixed_line bytes line = do
  row ← whole_line line
  refuse (not (bytes_eq row.bytes bytes)) BadLine

-- no line is left
abbrev pub no_line : Option Row → Result (Unit {0}) ReportCode
no_line None = Ok tt
no_line (Some row) = do
  _ ← refuse (not row.whole) Truncated
  Err BadLine

-- ---- lines of the topology

-- why a line at which the topology's checks fail is refused
abbrev pub blamed : Result Row ReportCode → ReportCode
blamed (Ok row) = BadLine
blamed (Err code) = code

-- a refusal of the topology's text is one of the report's; the line may be lacking, or lack its line feed
abbrev pub among : {A : Type 0} → List Row → Result A (TopologyCode × ℕ) → Result A (ReportCode × ℕ)
among rows (Ok x) = Ok x
among rows (Err e) = Err (blamed (whole_line (slice_get rows (e.1 - 1))), e.1)
