-- What a command does with the source and the shelf, and which statuses are refusals. This project's own.
use Rattle.std.specs.{Prelude.{◌==◌, ℕ, Bool, true, false, IsTrue, List, [], ◌∷◌, Result, Ok, Err}, List.list_any}
use Rattle.command_words.specs.{declared.{command.Command.Command, fault.WordFault.WordFault}, Words.command_of}
use Rattle.command_words.specs.declared.command.Command.TheVariants as command
use Rattle.run_rules.specs.{declared.status.Status.{Status, TheVariants.{BadWords, BadTopology, BadReport, TooLarge, NoCandidate, TooLong, BadJson}}, Statuses.status_number}

-- each command reads the source, but `family` and `trial`, which words alone decide
abbrev pub reads_source : Result Command WordFault → Bool
reads_source (Err fault) = false
reads_source (Ok (command.Family kind size)) = false
reads_source (Ok (command.Trial n)) = false
reads_source (Ok c) = true

-- a search over a topology keeps its proofs as files of the shelf, but for one in order; a report is checked over files, and so is one that is searched anew after a fault
abbrev pub opens_shelf : Result Command WordFault → Bool
opens_shelf (Ok (command.Synth kind word limits root kept)) = true
opens_shelf (Ok command.Check) = true
opens_shelf (Ok (command.Bound kind word limits root all_sets)) = true
opens_shelf (Ok (command.Degrade group group_word width width_word)) = true
opens_shelf x = false

-- the words ask for such a command
abbrev pub Ask : (Result Command WordFault → Bool) → List (List ℕ) → Type 0
Ask such words = IsTrue (such (command_of words))

-- the status is one of these
abbrev pub IsOneOf : List Status → Status → Type 0
IsOneOf statuses status = IsTrue (list_any (λ s. status_number s == status_number status) statuses)

-- the words, the text or the size of a search are refused, before the shelf is opened
abbrev pub IsRefusal : Status → Type 0
IsRefusal = IsOneOf (BadWords ∷ BadTopology ∷ BadReport ∷ TooLarge ∷ NoCandidate ∷ TooLong ∷ BadJson ∷ [])
