-- The topology's header among a report's lines, and refusals of the topology. This project's own.
use Rattle.std.specs.Prelude.{ℕ, ◌+◌, ◌-◌, ◌<◌, ◌^◌, not, Bool, List, Result, Ok, slice_get}
use Rattle.text_lines.specs.{Text.{Row, Place, rows_of}, Check.{◌>>=◌, refuse, at_line, line_part}, declared.stop.Stop.Stop}
use Rattle.text_lines.specs.declared.stop.Stop.TheVariants as stop
use Rattle.topology_text.specs.{declared.fault.TopologyCode.TopologyCode, Reading.header_line}
use Rattle.report_form.specs.{declared.fault.ReportCode.ReportCode, Lines.{among, blamed, whole_line}, Reading.is_same}
use Rattle.report_form.specs.declared.fault.ReportCode.TheVariants as code
use Rattle.frontier_report.specs.declared.report_stop.ReportStop.{ReportStop, TheVariants.{Memory, Refused}}

-- the header, of the report's version
abbrev pub header_at : List Row → Bool → Place → Result Place (ReportCode × ℕ)
header_at rows patterned p = do
  header ← among rows (line_part header_line p)
  _ ← at_line p.number (refuse (not (is_same header.0 patterned)) code.BadLine)
  Ok header.1

-- a refusal of the topology's text, as one of the report's
abbrev pub stop_of : List ℕ → Stop (TopologyCode × ℕ) → ReportStop
stop_of text stop.Memory = Memory
stop_of text (stop.Refused e) = Refused (record { code = blamed (whole_line (slice_get (rows_of text) (e.1 - 1))); line = e.1 })

-- each line that a topology may have has a number that fits, and so has the one after the last
abbrev pub HasMuchRoom : Place → Type 0
HasMuchRoom p = p.number + 300 < 2 ^ 32
