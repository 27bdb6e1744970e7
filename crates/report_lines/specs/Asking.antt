-- What a part of a report answers. This project's own.
use Rattle.candidate_order.specs.Frontiers.{QuestionValue}
use Rattle.report_form.specs.Reports.{question_of}
use Rattle.report_lines.specs.declared.question.Question.{Question}

abbrev pub asks : Question → QuestionValue
asks q = question_of q.words q.topology.now q.part
