use Rattle.std.proofs.Common.{◌≡◌, length}
use Rattle.report_form.specs.Points.{numbers_from}
use Rattle.frontier_report.proofs.Numbers.{behind_numbers}
use Rattle.frontier_report.proofs.rounds.numbers_of.Given as goal

abbrev pub invariant-loop-token : goal.invariant-loop-token
invariant-loop-token l = behind_numbers l.numbers.items (numbers_from l.tokens.words) ≡ numbers_from l.initial.tokens.words

abbrev pub decreases-loop-token : goal.decreases-loop-token
decreases-loop-token l = length l.tokens.words
