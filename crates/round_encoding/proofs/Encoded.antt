-- The formula that is made in parts is that of the candidate.
use Rattle.std.proofs.Common.{arith, ◌≡◌, ℕ, ◌+◌, ◌-◌, ◌++◌}
use Rattle.schedule.specs.{Links.TopologyValue, Placed.PlacementValue}
use Rattle.cnf_formula.specs.Formulas.{FormulaValue}
use Rattle.round_encoding.{specs.{Frames.own_variables, inner.Counts.with_counts, Rounding.{extra_in_order, counts_in, encoding_of}}, proofs.Countings.counted_is}
use Rattle.send_encoding.specs.{Variables.{SendMapValue, map_of, arrivals, sends}, Sending.sending}

pub encoded : (t : TopologyValue) (pre post : PlacementValue) (steps rounds : ℕ) (m : SendMapValue) (v : ℕ) (f1 f2 : FormulaValue) → m ≡ map_of t pre steps
    → f1 ≡ record { vars = arrivals (map_of t pre steps) + sends (map_of t pre steps); clauses = sending (map_of t pre steps) pre post } → v ≡ f1.vars
    → f2 ≡ with_counts (record { vars = own_variables (record { map = m; extra = rounds - steps }); clauses = f1.clauses ++ extra_in_order (record { map = m; extra = rounds - steps }) }) (counts_in (record { map = m; extra = rounds - steps }) t)
    → record { formula = f2; map = m; extra_from = v + 1; steps = steps; extra = rounds - steps } ≡ encoding_of t pre post steps rounds
encoded t pre post steps rounds m v f1 f2 em e1 ev e2 = grind (arith, counted_is)
