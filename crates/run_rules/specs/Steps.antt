-- The steps of what is due, as contracts of the code have them: each is a part of `task_by` by a name of its own.
use Rattle.std.specs.Prelude.{ℕ, ◌&&◌, not, Bool, length, nat_lt, List, [], ◌∷◌, Option, Result, Ok, Err, codes}
use Rattle.outer_ports.specs.declared.part.Part.TheVariants.{Whole}
use Rattle.text_lines.specs.{Text.line, Check.{◌>>=◌, refuse}}
use Rattle.collective_spec.specs.Collectives.{fits_kind}
use Rattle.candidate_order.specs.Frontiers.{QuestionValue}
use Rattle.topology_text.specs.Value.{NamedTopologyValue}
use Rattle.report_form.specs.Reports.{WordsValue, ReportValue, question_of}
use Rattle.replay_text.specs.{Showing.{shown_in, shown_text}, Points.programs_of_point}
use Rattle.command_words.specs.declared.{command.{SearchWords.SearchWords, PointWord.PointWord}, fault.WordCode.TheVariants.CustomMismatch}
use Rattle.run_rules.specs.{declared.status.Status.{Status, TheVariants.{Done, TooLong}}, Refusals.{Refusal, refusal_line, refused_at, refused_word}}
use Rattle.run_rules.specs.Tasks.{Task, Write, Synthesise, Audit, Bound, Order, Degrade, fault_in, given_sets, limit, point_in, root_in, search_asked, searchable}

-- what is read came whole
abbrev pub whole_text : Bool → List ℕ → Result (Unit {0}) Refusal
whole_text reads bytes = refuse (reads && nat_lt limit (length bytes)) (refused_at TooLong 0 limit)

-- ---- searches

-- a topology with a pattern is for the kind custom, and only it
abbrev pub fitting : SearchWords → NamedTopologyValue → Result (Unit {0}) Refusal
fitting asked t = refuse (not (fits_kind asked.kind t.custom)) (refused_word CustomMismatch asked.kind_word)

-- what is asked for in all
abbrev pub whole_question : WordsValue → NamedTopologyValue → QuestionValue
whole_question w t = question_of w t Whole

abbrev pub words_for : SearchWords → ℕ → WordsValue
words_for asked root = record { collective = record { kind = asked.kind; root = root }; limits = asked.limits }

-- the words and the topology of the search, where it is small enough and has a candidate
abbrev pub search_for : WordsValue → NamedTopologyValue → Result (WordsValue × NamedTopologyValue) Refusal
search_for w t = do
  _ ← searchable (whole_question w t)
  Ok (w, t)

abbrev pub search_over : SearchWords → NamedTopologyValue → Result (WordsValue × NamedTopologyValue) Refusal
search_over asked t = do
  _ ← fitting asked t
  root ← root_in t.names asked.root
  search_for (words_for asked root) t

abbrev pub synthesis_asked : SearchWords → Bool → List ℕ → Result Task Refusal
synthesis_asked asked kept bytes = do
  search ← search_asked asked bytes
  Ok (Synthesise search.0 search.1 kept)

abbrev pub bound_asked : SearchWords → Bool → List ℕ → Result Task Refusal
bound_asked asked all_sets bytes = do
  search ← search_asked asked bytes
  Ok (Bound search.0 search.1 (given_sets all_sets))

abbrev pub order_asked : SearchWords → List ℕ → Result Task Refusal
order_asked asked bytes = do
  search ← search_asked asked bytes
  Ok (Order search.0 search.1)

-- ---- reports

-- the report, where its search can be done
abbrev pub audit_in : ReportValue → Result Task Refusal
audit_in report = do
  _ ← searchable (whole_question report.words report.topology)
  Ok (Audit report)

-- the report whose files are to be looked at, and whose search is to be done anew
abbrev pub degrade_in : ReportValue → ℕ → ℕ → ℕ → ℕ → Result Task Refusal
degrade_in report group group_word width width_word = do
  _ ← fault_in report group group_word width width_word
  _ ← searchable (whole_question report.words report.topology)
  Ok (Degrade report group width)

-- the replay of a point of this report
abbrev pub replay_in : ReportValue → PointWord → Option ℕ → Result Task Refusal
replay_in report asked order = do
  point ← point_in report asked
  Ok (Write (shown_text asked.point (shown_in report point) order))

-- the programs of a point of this report
abbrev pub programs_in : ReportValue → PointWord → Result Task Refusal
programs_in report asked = do
  point ← point_in report asked
  Ok (Write (programs_of_point report asked.point point))

-- ---- the verdict on a report

abbrev pub verdict_status : Result (Unit {0}) Refusal → Status
verdict_status (Ok x) = Done
verdict_status (Err r) = r.status

abbrev pub verdict_text : Result (Unit {0}) Refusal → List ℕ
verdict_text (Ok x) = line (codes "verified" ∷ [])
verdict_text (Err r) = refusal_line r
