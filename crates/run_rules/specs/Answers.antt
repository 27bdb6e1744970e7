-- The answer to what is due: its status, its text, and the files that it leaves. This project's own; the synthesis theorem is the case of a search.
use Rattle.std.specs.Prelude.{◌≡◌, ℕ, Bool, IsTrue, List, [], ◌∷◌, Result, Ok, Err, codes}
use Rattle.text_lines.specs.Text.{line}
use Rattle.outer_ports.specs.{Files.Files, Shelf.FilesStay}
use Rattle.topology_text.specs.Value.{NamedTopologyValue}
use Rattle.report_form.specs.{Reports.{WordsValue, ReportValue}, Spelling.report_text}
use Rattle.frontier_audit.specs.{Rights.{IsRight, IsSearched}, OwedFiles.{BreaksOff, KeepsProofs, Proves, TakesUpProofs}}
use Rattle.run_rules.specs.{declared.status.Status.{Status, TheVariants.Done}, Refusals.{Refusal, refusal_line}, Audits.IsAudited, Tries.Tries, Tasks.{Task, Write, Synthesise, Audit, Try, Bound, Order, Degrade}, Bounds.IsBoundAnswer}
use Rattle.run_rules.specs.{Orders.IsOrderedAnswer, Degraded.IsNewSearch}
pub use Rattle.run_rules.specs.Said.{FilesValue, IsSaid, Says, Stay}

-- a search: the text of one report of these words and this topology, which is right and searched in order, and whose proofs the files are; where proofs are kept, a candidate that was tried and that its files refuted before is refuted, and what refuted any candidate before stands there still; a file that changed is one of its own, and holds the text of the formula, or of lines that are accepted in their turn, or the beginning of such a text
pub record IsSearch (w : WordsValue) (t : NamedTopologyValue) (kept : Bool) (files : FilesValue) (status : Status) (text : List ℕ) : Type 0 where
  pub report : ReportValue
  pub words : report.words ≡ w
  pub topology : report.topology ≡ t
  pub right : IsRight report
  pub searched : IsSearched report
  pub says : Says Done (report_text report) status text
  pub proves : IsTrue files.told → Proves report files.before files.after
  pub takes : IsTrue kept → IsTrue files.told → TakesUpProofs report files.before
  pub keeps : IsTrue kept → IsTrue files.told → KeepsProofs w t files.before files.after
  pub begun : IsTrue files.told → BreaksOff w t files.before files.after

-- the answer to what is due; a trial is the summary of a search with files of its own; after a fault the old report is audited first
abbrev pub IsAnswer : Result Task Refusal → FilesValue → Status → List ℕ → Type 0
IsAnswer (Err r) = IsSaid r.status (refusal_line r)
IsAnswer (Ok (Write text)) = IsSaid Done text
IsAnswer (Ok (Synthesise w t kept)) = IsSearch w t kept
IsAnswer (Ok (Audit r)) = IsAudited r (Says Done (line (codes "verified" ∷ [])))
IsAnswer (Ok (Try n)) = λ files status text. Tries n text × IsSaid Done text files status text
IsAnswer (Ok (Bound w t sets)) = IsBoundAnswer w t sets
IsAnswer (Ok (Order w t)) = IsOrderedAnswer w t
IsAnswer (Ok (Degrade r group width)) = IsAudited r (IsNewSearch r group width)

-- the same beside any files that stay: of what opens no shelf
abbrev pub IsAnswerAlone : Result Task Refusal → Status → List ℕ → Type 0
IsAnswerAlone due status text = (files : FilesValue) → Stay files → IsAnswer due files status text

-- ---- what is left where there is no answer

-- a search that broke off has begun files of its own; where proofs are kept, what refuted a candidate before stands there still; of all else every file is as before
abbrev pub LeavesOff : Result Task Refusal → Files → Files → Type 0
LeavesOff (Ok (Synthesise w t kept)) before after = BreaksOff w t before after × (IsTrue kept → KeepsProofs w t before after)
LeavesOff (Ok (Bound w t sets)) before after = BreaksOff w t before after
LeavesOff _ before after = FilesStay before after
