-- What answers the words for JSON: what was read of the bytes, or its refusal.
use Rattle.std.proofs.Common.{◌≡◌, ◌≢◌, ◌⊎◌, inl, inr, ℕ, List, [], Option, None, Some, Result, Ok, Err, ap, ◌∙◌, IfOk}
use Rattle.outer_ports.specs.declared.part.Part.{Part}
use Rattle.text_lines.specs.Check.{◌>>=◌, need}
use Rattle.candidate_order.specs.Frontiers.{PointValue}
use Rattle.topology_text.specs.{declared.fault.TopologyCode.TopologyCode, Value.NamedTopologyValue, Answer.topology_number, Reading.topology_of, Spelling.spelling}
use Rattle.report_form.specs.{Reading.report_of, Reports.ReportValue, Numbered.point_at, Spelling.report_text}
use Rattle.json_values.specs.{declared.fault.JsonCode.JsonCode, Answer.{json_number, topology_of_json}, Json.printed, Reading.read_json, TopologyForm.topology as topology_form}
use Rattle.json_rules.{specs.{ReportForm.report as report_form, Answer.report_of_json}, proofs.ReadJson.read_alike}
use Rattle.command_words.specs.declared.{command.PointWord.PointWord, fault.WordCode.TheVariants.UnknownPoint}
use Rattle.run_rules.specs.{declared.{status.Status.{Status, TheVariants.{BadJson, BadTopology, BadWords}}, answer.Answer.Answer}, Answers.{IsAnswerAlone, Says}, Refusals.{Refusal, refused_as, refused_at, refused_word, refusal_line}}
use Rattle.run_rules.{specs.Tasks.{Task, Write, json_programs_in, programs_value}, proofs.Answered.refused_answers}

-- a refusal at a line or a place, as the answer says it
abbrev pub SaysAt : Status → ℕ → ℕ → Answer → Type 0
SaysAt status code place a = Says status (refusal_line (refused_at status code place)) a.status a.text.items

-- a refusal that is not for out of memory
pub refused_unless : {A E C : Type 0} (due : Result Task Refusal) (read : Result A (C × ℕ)) (memory code : C) (place : ℕ) (after : Result A (C × ℕ) → Result Task Refusal) (status : Status) (number : C → ℕ) (result : Result Answer E)
    → due ≡ after read → after (Err (code, place)) ≡ Err (refused_at status (number code) place)
    → ((code ≡ memory) × (place ≡ 0)) ⊎ (read ≡ Err (code, place)) → IfOk result (λ _. code ≢ memory) → IfOk result (SaysAt status (number code) place)
    → IfOk result (λ a. IsAnswerAlone due a.status a.text.items)
refused_unless due read memory code place after status number (Err e) is then why other says = tt
refused_unless due read memory code place after status number (Ok a) is then (inl out) other says = absurd (other out.0)
refused_unless due read memory code place after status number (Ok a) is then (inr e) other says = refused_answers due (refused_at status (number code) place) a.status a.text.items (is ∙ (ap after e ∙ then)) says

-- ---- what is written as JSON

abbrev pub topology_due : Result NamedTopologyValue (TopologyCode × ℕ) → Result Task Refusal
topology_due read = refused_as BadTopology topology_number read >>= (λ t. Ok (Write (printed ((topology_form t.names).json t))))

module _ (r : ReportValue) (asked : PointWord) where
  abbrev pub programs_from : Option (Part × PointValue) → Result Task Refusal
  programs_from found = need found (refused_word UnknownPoint asked.word) >>= (λ p. Ok (Write (printed (programs_value r asked.point p))))

  pub no_programs : (status : Status) (text : List ℕ) → point_at r asked.point ≡ None → Says BadWords (refusal_line (refused_word UnknownPoint asked.word)) status text → IsAnswerAlone (json_programs_in r (Some asked)) status text
  no_programs status text e says = refused_answers (json_programs_in r (Some asked)) (refused_word UnknownPoint asked.word) status text (ap programs_from e) says

-- ---- what is read from it

abbrev pub report_read_due : Result ReportValue (JsonCode × ℕ) → Result Task Refusal
report_read_due read = refused_as BadJson json_number read >>= (λ r. Ok (Write (report_text r)))

abbrev pub topology_read_due : Result NamedTopologyValue (JsonCode × ℕ) → Result Task Refusal
topology_read_due read = refused_as BadJson json_number read >>= (λ t. Ok (Write (spelling t)))

module _ (bytes : List ℕ) where
  -- by the tables
  pub topology_same : read_json (topology_form []) topology_of bytes ≡ topology_of_json bytes
  topology_same = read_alike (topology_form []) topology_of bytes

  pub report_same : read_json (report_form []) report_of bytes ≡ report_of_json bytes
  report_same = read_alike (report_form []) report_of bytes
