-- What follows for the reader of a report, and what is due for the words of a replay, in words of reports and their texts.
use Rattle.std.specs.Prelude.{◌≡◌, ◌≤◌, ◌++◌, ℕ, List, length, Contains, Option, Ok, Err}
use Rattle.outer_ports.specs.{declared.part.Part.Part, Shelf.FilesStay}
use Rattle.candidate_order.specs.{declared.{candidate.Candidate.Candidate, mark.Mark.TheVariants.Optimal}, Costs.Better, Frontiers.{PointValue, FrontierValue, IsSolvable, IsWithin}}
use Rattle.command_words.specs.declared.command.Command.TheVariants as command
use Rattle.command_words.specs.Words.{command_of}
use Rattle.report_form.specs.{declared.fault.ReportCode.ReportCode, Answer.report_number, Reports.{ReportValue, IsReport, question_of}, Spelling.report_text, First.FailsFirstAt}
use Rattle.run_rules.specs.{declared.status.Status.TheVariants.BadReport, Refusals.refused_at, Tasks.{due, limit}}
use Rattle.sccl_run.specs.{TopCall.{CountValue, IsRun, RunValue}, Rows.all_tell}

-- the run is right, where every port tells
abbrev pub IsRightRun : RunValue → CountValue → CountValue → CountValue → Type 0
IsRightRun x source sink shelf = IsRun x all_tell source sink shelf (x.left ≡ x.bytes) (x.now ≡ x.before) (FilesStay x.files x.files_after)

-- what is appended is the text of a report of which this holds
pub record WritesWith (P : ReportValue → Type 0) (before now : List ℕ) : Type 0 where
  pub report : ReportValue
  pub text : now ≡ before ++ report_text report
  pub says : P report

-- no candidate within the limits that is better than an optimal point has a schedule
abbrev pub NoneIsBetter : ReportValue → Type 0
NoneIsBetter r =
    (part : Part) (f : FrontierValue) (p : PointValue) (y : Candidate) → Contains r.frontiers (part, f) → Contains f.points p → p.mark ≡ Optimal →
    IsWithin (question_of r.words r.topology part) y → Better y p.candidate → IsSolvable (question_of r.words r.topology part) y → ⊥

-- ---- replays

-- the words ask for the replay of the point of this number, in this order; that number is the word at this index
pub record AskReplay (words : List (List ℕ)) (number word : ℕ) (order : Option ℕ) : Type 0 where
  pub is : command_of words ≡ Ok (command.Replay number word order)

-- the text of a valid report, which is not too long
pub record IsTextOf (r : ReportValue) (bytes : List ℕ) : Type 0 where
  pub valid : IsReport r
  pub spelled : bytes ≡ report_text r
  pub short : length bytes ≤ limit

-- a text that is that of no report is refused at the first line at which it can no longer be one
pub record IsRefusedText (words : List (List ℕ)) (bytes : List ℕ) : Type 0 where
  pub code : ReportCode
  pub line : ℕ
  pub due : due words bytes ≡ Err (refused_at BadReport (report_number code) line)
  pub first : FailsFirstAt bytes line
