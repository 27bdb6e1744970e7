-- What is made of a candidate before it is searched.
use Rattle.std.specs.Prelude.{Bool, List, unwrap_or}
use Rattle.schedule.specs.Sends.{ScheduleValue}
use Rattle.cnf_formula.specs.Formulas.{FormulaValue}
use Rattle.round_encoding.specs.{declared.encoding.Encoding.Encoding, Decoding.decoded}
use Rattle.candidate_formula.specs.declared.encoding.Encoded.{Encoded}

-- the formula that is searched: that with the clauses of the order, where there is one
abbrev pub formula_in : Encoded → FormulaValue
formula_in e = unwrap_or e.ordered e.encoding.formula

-- the schedule that an assignment says
abbrev pub schedule_said : Encoding → List Bool → ScheduleValue
schedule_said e values = decoded (record { map = e.map; extra = e.extra }) values
