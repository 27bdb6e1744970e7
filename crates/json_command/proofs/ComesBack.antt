-- What is written as JSON is read back as the text that it was written of.
use Rattle.std.proofs.{Common.{◌≡◌, ℕ, ◌≤◌, nat_lt, Bool, true, false, List, [], length, None, Result, Ok, Err, sym, ap, ◌∙◌, refl}, lemmas.Bool.le-ltb}
use Rattle.text_lines.specs.Check.{◌>>=◌, refuse}
use Rattle.topology_text.{specs.{declared.fault.TopologyCode.TopologyCode, Reading.topology_of, Value.NamedTopologyValue}, proofs.Laws.all_take}
use Rattle.report_form.{specs.{declared.fault.ReportCode.ReportCode, Answer.report_number, Reading.report_of, Reports.ReportValue}, proofs.ReportTaken.report_take}
use Rattle.json_values.{specs.{Json.printed, TopologyJson.topology_json, Answer.topology_of_json}, proofs.Built.topology_back}
use Rattle.json_rules.specs.{ReportForm.report as report_form, Answer.report_of_json, ReportJson.report_json}
use Rattle.json_reports.proofs.Built.{report_back}
use Rattle.command_words.specs.{declared.command.{Command.Command, JsonWhat.JsonWhat}, Words.command_of}
use Rattle.command_words.specs.declared.command.Command.TheVariants as command
use Rattle.command_words.specs.declared.command.JsonWhat.TheVariants as what
use Rattle.run_rules.specs.{declared.status.Status.TheVariants.{BadReport, TooLong}, Commands.reads_source, Steps.whole_text, Refusals.{Refusal, refused_as, refused_at}}
use Rattle.run_rules.specs.Tasks.{Task, Write, due, json_asked, json_programs_in, limit, read_report, task_of, unjson_asked, words_asked}
use Rattle.json_command.proofs.Exchanged.{topology_due, topology_read_due, topology_same, report_read_due, report_same}

-- the text of what is to be written
written_of : Result Task Refusal → List ℕ
written_of (Ok (Write text)) = text
written_of _ = []

module _ (bytes text : List ℕ) where
  topology_comes_back : (read : Result NamedTopologyValue (TopologyCode × ℕ)) → topology_of bytes ≡ read → topology_due read ≡ Ok (Write text) → unjson_asked what.Topology text ≡ Ok (Write bytes)
  unfolding written_of
  topology_comes_back (Err e) is due = absurd cc
  topology_comes_back (Ok t) is due =
      let taken = all_take bytes t is in
      let shown : text ≡ printed (topology_json t) = sym (ap written_of due) in
      ap topology_read_due (topology_same text ∙ ap topology_of_json shown ∙ topology_back t taken.0) ∙ ap (λ s. Ok (Write s)) (sym taken.1)

  report_due : Result ReportValue (ReportCode × ℕ) → Result Task Refusal
  report_due read = refused_as BadReport report_number read >>= (λ r. Ok (Write (printed ((report_form r.topology.names).json r))))

  report_comes_back : (read : Result ReportValue (ReportCode × ℕ)) → report_of bytes ≡ read → report_due read ≡ Ok (Write text) → unjson_asked what.Report text ≡ Ok (Write bytes)
  unfolding report_due written_of
  report_comes_back (Err e) is due = absurd cc
  report_comes_back (Ok r) is due =
      let taken = report_take bytes r is in
      let shown : text ≡ printed (report_json r) = sym (ap written_of due) in
      ap report_read_due (report_same text ∙ ap report_of_json shown ∙ report_back r taken.valid) ∙ ap (λ s. Ok (Write s)) (sym taken.spelled)

  -- programs are not written without a point
  no_programs : (read : Result ReportValue Refusal) → read >>= (λ r. json_programs_in r None) ≡ Ok (Write text) → ⊥
  no_programs (Ok r) due = cc
  no_programs (Err e) due = cc

  pub comes_back : (value : JsonWhat) → json_asked value None bytes ≡ Ok (Write text) → unjson_asked value text ≡ Ok (Write bytes)
  unfolding report_due
  comes_back what.Topology due = topology_comes_back (topology_of bytes) refl due
  comes_back what.Report due = report_comes_back (report_of bytes) refl due
  comes_back what.Programs due = absurd (no_programs (read_report bytes) due)

-- ---- by the words, and by how long the texts are

due_of : (words : List (List ℕ)) (c : Command) (bytes : List ℕ) → command_of words ≡ Ok c → due words bytes ≡ (whole_text (reads_source (Ok c)) bytes >>= (λ _. task_of c bytes))
unfolding due
due_of words c bytes e = ap (λ x. words_asked x >>= (λ d. whole_text (reads_source (Ok d)) bytes >>= (λ _. task_of d bytes))) e

-- what is due behind the check of the length is due
behind_length : (reads : Bool) (bytes : List ℕ) (asked : Result Task Refusal) (task : Task) → whole_text reads bytes >>= (λ _. asked) ≡ Ok task → asked ≡ Ok task
behind_length false bytes asked task e = e
behind_length true bytes asked task e = by_length (nat_lt limit (length bytes)) e
  where
    by_length : (long : Bool) → refuse long (refused_at TooLong 0 limit) >>= (λ _. asked) ≡ Ok task → asked ≡ Ok task
    by_length true refused = absurd cc
    by_length false passed = passed

pub short_whole : (reads : Bool) (bytes : List ℕ) → length bytes ≤ limit → whole_text reads bytes ≡ Ok tt
short_whole true bytes short = let test : nat_lt limit (length bytes) ≡ false = le-ltb limit (length bytes) short in rw test refl
short_whole false bytes short = refl

pub due_back : (words back : List (List ℕ)) (value : JsonWhat) → command_of words ≡ Ok (command.Json value None) → command_of back ≡ Ok (command.Unjson value) → (bytes text : List ℕ)
    → due words bytes ≡ Ok (Write text) → length text ≤ limit → due back text ≡ Ok (Write bytes)
due_back words back value writes reads bytes text is short =
    let asked : json_asked value None bytes ≡ Ok (Write text) = behind_length true bytes (json_asked value None bytes) (Write text) (sym (due_of words (command.Json value None) bytes writes) ∙ is) in
    due_of back (command.Unjson value) text reads ∙ ap (λ x. x >>= (λ _. unjson_asked value text)) (short_whole true text short) ∙ comes_back bytes text value asked
