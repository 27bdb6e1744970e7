-- What is said of an answer before it is written, as the code has it.
use Rattle.std.specs.Prelude.{◌≡◌, ◌++◌, ℕ, Bool, IsTrue, List, Result, Ok, Err}
use Rattle.text_lines.specs.Check.{◌>>=◌}
use Rattle.command_words.specs.declared.{command.Command.Command, fault.WordFault.WordFault}
use Rattle.run_rules.specs.{declared.{status.Status.{Status, TheVariants.BadWords}, halt.Halt.{Halt, TheVariants.Shelf}}, Refusals.Refusal, Steps.whole_text}
use Rattle.run_rules.specs.{Commands.{Ask, IsOneOf, reads_source}, Ends.answers_of, Tasks.{Task, due, task_of}, Answers.{FilesValue, IsAnswer, LeavesOff}}
use Rattle.sccl_run.specs.TopCall.{RunValue, ToldValue}

-- the files of a run, and whether the shelf tells them
abbrev pub files_of : RunValue → ToldValue → FilesValue
files_of x told = record { told = told.shelf; before = x.files; after = x.files_after }

-- there is an answer, and its whole text was written
pub record IsWholeAnswer (due : Result Task Refusal) (x : RunValue) (told : ToldValue) : Type 0 where
  pub text : List ℕ
  pub answer : IsAnswer due (files_of x told) x.status text
  pub written : IsTrue told.sink → x.now ≡ x.before ++ text

-- what is due for a command over these bytes
abbrev pub due_for : Command → List ℕ → Result Task Refusal
due_for c bytes = whole_text (reads_source (Ok c)) bytes >>= (λ _. task_of c bytes)

-- an answer to the words and to some bytes, which are those that the source had where it tells them and is read
pub record IsAnswerTo (words : List (List ℕ)) (tells : Bool) (had : List ℕ) (files : FilesValue) (status : Status) (text : List ℕ) : Type 0 where
  pub came : List ℕ
  pub are : IsTrue tells → Ask reads_source words → came ≡ had
  pub answer : IsAnswer (due words came) files status text

-- and there is none
pub record IsHaltAt (words : List (List ℕ)) (tells : Bool) (had : List ℕ) (files : FilesValue) (halt : Halt) : Type 0 where
  pub came : List ℕ
  pub are : IsTrue tells → Ask reads_source words → came ≡ had
  pub last : halt ≡ Shelf → (r : Refusal) → due words came ≡ Err r → ⊥
  pub leaves : IsTrue files.told → LeavesOff (due words came) files.before files.after

-- a status with which words are answered
abbrev pub Answers : Result Command WordFault → Status → Type 0
Answers (Err fault) status = status ≡ BadWords
Answers (Ok c) status = IsOneOf (answers_of c) status
