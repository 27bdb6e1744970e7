-- The words of a search as their line spells them. This project's own.
use Rattle.std.specs.{Prelude.IsTrue, Str.Parse.digits_value}
use Rattle.candidate_order.specs.Ranges.{LimitsValue, unpruned}
use Rattle.report_form.specs.{SynthLine.AskedValue, Fields.is_number}
use Rattle.report_lines.specs.declared.synth_line.{SpelledLimits.SpelledLimits, Asked.Asked}

-- the numbers that are spelled, of any size, with nothing left out
abbrev pub limits_of : SpelledLimits → LimitsValue
limits_of l = record { k = digits_value 10 l.k.now; max_s = digits_value 10 l.max_s.now; max_c = digits_value 10 l.max_c.now; conflicts = digits_value 10 l.conflicts.now; pruning = unpruned }

-- each of them is a number
pub record AreNumbers (l : SpelledLimits) : Type 0 where
  pub k : IsTrue (is_number l.k.now)
  pub max_s : IsTrue (is_number l.max_s.now)
  pub max_c : IsTrue (is_number l.max_c.now)
  pub conflicts : IsTrue (is_number l.conflicts.now)

abbrev pub asked_value : Asked → AskedValue
asked_value a = record { kind = a.kind; limits = a.limits; root = a.root }
