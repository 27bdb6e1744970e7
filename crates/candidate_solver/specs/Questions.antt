-- What an engine settles the candidates of.
use Rattle.candidate_order.specs.Frontiers.{QuestionValue}
use Rattle.candidate_formula.specs.Questions.{copying_question}
use Rattle.candidate_solver.specs.declared.question.Question.{Question}

-- the question as a search asks it, of a collective that copies
abbrev pub asked : Question → QuestionValue
asked question = copying_question question.topology question.spec question.limits
