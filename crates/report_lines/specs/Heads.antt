-- The line that begins a point. This project's own.
use Rattle.report_form.specs.Points.{HeadValue}
use Rattle.report_lines.specs.declared.heads.Head.{Head}

abbrev pub head_value : Head → HeadValue
head_value h = record { candidate = h.candidate; mark = h.mark }
