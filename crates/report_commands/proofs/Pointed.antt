-- What answers the words for a point of a report, where there is one and where there is none.
use Rattle.std.proofs.Common.{◌≡◌, ℕ, List, Option, None, Some, Result, Ok, ap, Err}
use Rattle.text_lines.specs.Check.{◌>>=◌, need}
use Rattle.outer_ports.specs.declared.part.Part.{Part}
use Rattle.candidate_order.specs.Frontiers.{PointValue}
use Rattle.report_form.specs.{Reports.ReportValue, Numbered.point_at}
use Rattle.replay_text.specs.{Showing.{shown_in, shown_text}, Points.programs_of_point}
use Rattle.command_words.specs.declared.{command.PointWord.PointWord, fault.WordCode.TheVariants.UnknownPoint}
use Rattle.run_rules.specs.{declared.status.Status.{Status, TheVariants.{BadWords, Done}}, Answers.{IsAnswerAlone, Says}, Tasks.{Task, Write}, Refusals.{Refusal, refused_word, refusal_line}, Steps.{programs_in, replay_in}}
use Rattle.run_rules.proofs.Answered.{refused_answers, written_as}

-- the line that refuses the word of a point
abbrev pub SaysNoPoint : PointWord → Status → List ℕ → Type 0
SaysNoPoint asked = Says BadWords (refusal_line (refused_word UnknownPoint asked.word))

module _ (r : ReportValue) (asked : PointWord) (order : Option ℕ) where
  replay_from : Option (Part × PointValue) → Result Task Refusal
  replay_from found = need found (refused_word UnknownPoint asked.word) >>= (λ p. Ok (Write (shown_text asked.point (shown_in r p) order)))

  pub no_point : point_at r asked.point ≡ None → replay_in r asked order ≡ Err (refused_word UnknownPoint asked.word)
  unfolding replay_from
  no_point e = ap replay_from e

  pub some_point : (p : Part × PointValue) → point_at r asked.point ≡ Some p → replay_in r asked order ≡ Ok (Write (shown_text asked.point (shown_in r p) order))
  unfolding replay_from
  some_point p e = ap replay_from e

  pub no_replay : (status : Status) (text : List ℕ) → point_at r asked.point ≡ None → SaysNoPoint asked status text → IsAnswerAlone (replay_in r asked order) status text
  no_replay status text e says = refused_answers (replay_in r asked order) (refused_word UnknownPoint asked.word) status text (no_point e) says

  pub replay_of : (p : Part × PointValue) (text : List ℕ) → point_at r asked.point ≡ Some p → text ≡ shown_text asked.point (shown_in r p) order → IsAnswerAlone (replay_in r asked order) Done text
  replay_of p text e shown = written_as (replay_in r asked order) (shown_text asked.point (shown_in r p) order) text (some_point p e) shown

module _ (r : ReportValue) (asked : PointWord) where
  programs_from : Option (Part × PointValue) → Result Task Refusal
  programs_from found = need found (refused_word UnknownPoint asked.word) >>= (λ p. Ok (Write (programs_of_point r asked.point p)))

  pub no_programs : (status : Status) (text : List ℕ) → point_at r asked.point ≡ None → SaysNoPoint asked status text → IsAnswerAlone (programs_in r asked) status text
  unfolding programs_from
  no_programs status text e says = refused_answers (programs_in r asked) (refused_word UnknownPoint asked.word) status text (ap programs_from e) says

  pub programs_of : (p : Part × PointValue) (text : List ℕ) → point_at r asked.point ≡ Some p → text ≡ programs_of_point r asked.point p → IsAnswerAlone (programs_in r asked) Done text
  unfolding programs_from
  programs_of p text e shown = written_as (programs_in r asked) (programs_of_point r asked.point p) text (ap programs_from e) shown
