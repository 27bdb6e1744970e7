-- A part of the topology in a report does the same where its lines are the same.
use Rattle.std.proofs.Common.{ℕ, ◌-◌, List, Result, Ok, Err, refl, ap, slice_get}
use Rattle.text_lines.{specs.Text.{Row, Place}, proofs.{Gives.{gives_done, gives_fail}, Steady.{SteadyAt, Steady}}}
use Rattle.topology_text.specs.declared.fault.TopologyCode.{TopologyCode}
use Rattle.report_form.specs.Lines.{whole_line, blamed, among}

pub steady_among : {A : Type 0} (rows others : List Row) (f g : Place → Result (A × Place) (TopologyCode × ℕ)) → Steady f g → Steady (λ p. among rows (f p)) (λ p. among others (g p))
steady_among {A} rows others f g s = record { at = λ p. among_at (f p) p (s.at p) }
  where
    among_at : (r : Result (A × Place) (TopologyCode × ℕ)) (p : Place) → SteadyAt r g p → SteadyAt (among rows r) (λ q. among others (g q)) p
    among_at (Ok x) p one =
        let l = one.ok x refl in
        gives_done x (record { later = l.later; fewer = l.fewer; alike = λ n q same low. let to = l.alike n q same low in record { rest = to.rest; is = ap (among others) to.is; same = to.same } })
    among_at (Err c) p one =
        let f = one.err c refl in
        gives_fail (blamed (whole_line (slice_get rows (c.1 - 1))), c.1) (record { late = f.late; alike = λ q same. let w = f.alike q same in record { why = blamed (whole_line (slice_get others (c.1 - 1))); is = ap (among others) w.is } })
