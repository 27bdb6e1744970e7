-- What is searched in place of a collective (Cai et al., PPoPP 2021, inversion).
use Rattle.std.specs.Prelude.{if◌then◌else◌}
use Rattle.schedule.specs.{Sends.ScheduleValue, Inverse.inverse_of}
use Rattle.collective_spec.specs.{declared.spec.Spec.Spec, Collectives.adds_up}
use Rattle.candidate_order.specs.Frontiers.{QuestionValue}
use Rattle.candidate_formula.specs.{Formulas.searched_links, Questions.copying_question}

-- over the links to search the collective itself, or that of which a reduction is the inverse, within the same limits
abbrev pub searched_question : QuestionValue → QuestionValue
searched_question q = copying_question (searched_links q.topology q.spec) q.spec q.limits

-- a schedule as what is searched has it: that of a reduction inverted
abbrev pub copying_schedule : Spec → ScheduleValue → ScheduleValue
copying_schedule spec s = if adds_up spec then inverse_of s else s
