-- Reports, as the reader holds them before they are known to be valid. This project's own.
use Rattle.topology_text.specs.Value.{NamedTopologyValue}
use Rattle.report_form.specs.Reports.{WordsValue, ReportValue}
use Rattle.frontier_report.specs.declared.{frontiers.Body.Body, reading.Parts.Parts}

abbrev pub body_value : WordsValue → NamedTopologyValue → Body → ReportValue
body_value w t b = record { words = w; topology = t; frontiers = b.frontiers.items; joined = b.joined.items }

abbrev pub parts_value : Parts → ReportValue
parts_value p = body_value p.words p.topology p.body
