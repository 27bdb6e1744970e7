-- What is due for the words of a replay.
use Rattle.std.proofs.Common.{◌≡◌, ◌≤◌, ℕ, List, length, Option, None, Some, Result, Ok, Err, refl, ap, ◌∙◌}
use Rattle.text_lines.specs.Check.{◌>>=◌}
use Rattle.outer_ports.specs.declared.part.Part.{Part}
use Rattle.candidate_order.specs.Frontiers.{PointValue}
use Rattle.command_words.specs.declared.command.Command.TheVariants as command
use Rattle.command_words.specs.declared.{command.PointWord.PointWord, fault.WordCode.TheVariants.UnknownPoint}
use Rattle.report_form.{specs.{declared.fault.ReportCode.ReportCode, Answer.report_number, Reports.{ReportValue, IsReport}, Spelling.report_text, Numbered.point_at, Reading.report_of}, proofs.ReportTaken.report_take}
use Rattle.report_laws.proofs.{ReportAgain.report_again, FirstBlamed.first_is_blamed}
use Rattle.replay_text.specs.Showing.{shown_in, shown_text}
use Rattle.run_rules.specs.{declared.status.Status.TheVariants.BadReport, Refusals.{Refusal, refused_as, refused_word}, Steps.replay_in, Tasks.{Task, Write, due, limit}}
use Rattle.report_commands.proofs.Pointed.{no_point, some_point}
use Rattle.sccl_run.{specs.Laws.{AskReplay, IsRefusedText, IsTextOf}, proofs.Dues.{due_command, short_due}}

module _ (words : List (List ℕ)) (number word : ℕ) (order : Option ℕ) (asks : AskReplay words number word order) (bytes : List ℕ) where
  asked_for : PointWord
  asked_for = record { point = number; word = word }

  -- what is due for a text that is read so
  abbrev read_as : Result ReportValue (ReportCode × ℕ) → Result Task Refusal
  read_as x = refused_as BadReport report_number x >>= (λ r. replay_in r asked_for order)

  due_replayed : length bytes ≤ limit → due words bytes ≡ read_as (report_of bytes)
  unfolding asked_for
  due_replayed short = due_command words bytes (command.Replay number word order) asks.is ∙ short_due (command.Replay number word order) bytes short

  of_report : (r : ReportValue) → IsTextOf r bytes → due words bytes ≡ replay_in r asked_for order
  of_report r text = due_replayed text.short ∙ ap read_as (ap report_of text.spelled ∙ report_again r text.valid)

  pub replayed_is_due : (r : ReportValue) (p : Part × PointValue) → IsTextOf r bytes → point_at r number ≡ Some p → due words bytes ≡ Ok (Write (shown_text number (shown_in r p) order))
  unfolding asked_for
  replayed_is_due r p text point = of_report r text ∙ some_point r asked_for order p point

  pub unknown_is_due : (r : ReportValue) → IsTextOf r bytes → point_at r number ≡ None → due words bytes ≡ Err (refused_word UnknownPoint word)
  unfolding asked_for
  unknown_is_due r text point = of_report r text ∙ no_point r asked_for order point

  refused_text : (x : Result ReportValue (ReportCode × ℕ)) → report_of bytes ≡ x → length bytes ≤ limit → ((r : ReportValue) → IsReport r → bytes ≡ report_text r → ⊥) → IsRefusedText words bytes
  refused_text (Ok r) e short none = let taken = report_take bytes r e in absurd (none r taken.valid taken.spelled)
  refused_text (Err (code, line)) e short none = record { code = code; line = line; due = due_replayed short ∙ ap read_as e; first = first_is_blamed bytes code line e }

  pub no_report_is_refused : length bytes ≤ limit → ((r : ReportValue) → IsReport r → bytes ≡ report_text r → ⊥) → IsRefusedText words bytes
  no_report_is_refused = refused_text (report_of bytes) refl
