-- Refusals: the status, the code and the place that are written.
use Rattle.std.specs.Prelude.{ℕ, List, [], ◌∷◌, Result, Ok, Err, codes, decimal}
use Rattle.text_lines.specs.Text.{line}
use Rattle.run_rules.specs.{declared.status.Status.{Status, TheVariants.BadWords}, Statuses.status_number}
use Rattle.command_words.specs.{declared.fault.WordCode.WordCode, Codes.word_number}

-- the place is a number, or the name of a candidate
pub record Refusal : Type 0 where
  pub status : Status
  pub code : ℕ
  pub place : List ℕ

abbrev pub refused_at : Status → ℕ → ℕ → Refusal
refused_at s code place = record { status = s; code = code; place = decimal place }

-- `refused`, the status, the code and the place
abbrev pub refusal_line : Refusal → List ℕ
refusal_line r = line (codes "refused" ∷ decimal (status_number r.status) ∷ decimal r.code ∷ r.place ∷ [])

-- a reader's code and place, with the status that goes with them
abbrev pub refused_as : {A C : Type 0} → Status → (C → ℕ) → Result A (C × ℕ) → Result A Refusal
refused_as s number (Ok x) = Ok x
refused_as s number (Err e) = Err (refused_at s (number e.0) e.1)

-- a refusal of the word with this index
abbrev pub refused_word : WordCode → ℕ → Refusal
refused_word code word = refused_at BadWords (word_number code) word
