use Rattle.std.proofs.Common.{arith}
use Rattle.candidate_formula.proofs.{Copying.{same_allowed, copied_stays}, CopyingQuestions.{small_by_copying, within_by, reduced_formula, copied_suits}, TurnedSize.copied_size}
use Rattle.candidate_formula.proofs.laws.reductions_are_sought_by_copying.Goals as goal

pub returns-clause-small : goal.returns-clause-small
returns-clause-small c = small_by_copying

pub returns-clause-within : goal.returns-clause-within
returns-clause-within c = grind (arith, within_by, same_allowed)

pub returns-clause-formula : goal.returns-clause-formula
returns-clause-formula c = reduced_formula

pub returns-clause-suits : goal.returns-clause-suits
returns-clause-suits c = copied_suits

pub returns-clause-stays : goal.returns-clause-stays
returns-clause-stays c = copied_stays

pub returns-clause-size : goal.returns-clause-size
returns-clause-size c = copied_size
