-- With which statuses each command can end, and which commands change files: both follow for a run (laws of this crate and of the top call). This project's own.
use Rattle.std.specs.Prelude.{Bool, true, false, if◌then◌else◌, List, [], ◌∷◌, ◌++◌, Result, Ok, Err}
use Rattle.command_words.specs.declared.{command.Command.Command, fault.WordFault.WordFault}
use Rattle.command_words.specs.declared.command.JsonWhat.TheVariants as what
use Rattle.command_words.specs.declared.command.Command.TheVariants as command
use Rattle.run_rules.specs.{declared.status.Status.{Status, TheVariants.{Done, BadWords, BadTopology, SourceFailed, ShelfFailed, BadReport, Denied, TooLarge, NoCandidate, TooLong, BadJson}}, Commands.{opens_shelf, reads_source}}

-- a search changes the files of its candidates
abbrev pub changes_files : Result Command WordFault → Bool
changes_files (Ok (command.Synth kind word limits root kept)) = true
changes_files (Ok (command.Bound kind word limits root all_sets)) = true
changes_files x = false

-- the refusals with which a command can end
abbrev pub refusals_of : Command → List Status
refusals_of (command.Synth kind word limits root kept) = BadWords ∷ BadTopology ∷ TooLarge ∷ NoCandidate ∷ TooLong ∷ []
refusals_of command.Check = BadReport ∷ Denied ∷ TooLarge ∷ NoCandidate ∷ TooLong ∷ []
refusals_of (command.Replay number word order) = BadWords ∷ BadReport ∷ TooLong ∷ []
refusals_of (command.Programs number word) = BadWords ∷ BadReport ∷ TooLong ∷ []
refusals_of (command.Family kind size) = []
refusals_of (command.Trial n) = []
refusals_of (command.Bound kind word limits root all_sets) = BadWords ∷ BadTopology ∷ TooLarge ∷ NoCandidate ∷ TooLong ∷ []
refusals_of (command.Ordered kind word limits root) = BadWords ∷ BadTopology ∷ TooLarge ∷ NoCandidate ∷ TooLong ∷ []
refusals_of (command.Degrade group group_word width width_word) = BadWords ∷ BadReport ∷ Denied ∷ TooLarge ∷ NoCandidate ∷ TooLong ∷ []
refusals_of (command.Json what.Topology point) = BadTopology ∷ TooLong ∷ []
refusals_of (command.Json what.Report point) = BadReport ∷ TooLong ∷ []
refusals_of (command.Json what.Programs point) = BadWords ∷ BadReport ∷ TooLong ∷ []
refusals_of (command.Unjson value) = TooLong ∷ BadJson ∷ []

-- the statuses with which a command can answer: it is done, or it is refused
abbrev pub answers_of : Command → List Status
answers_of c = Done ∷ refusals_of c

-- the statuses with which the words can end, beside out of memory and a failing sink
abbrev pub ends_of : Result Command WordFault → List Status
ends_of (Err fault) = BadWords ∷ []
ends_of (Ok c) = (if reads_source (Ok c) then SourceFailed ∷ [] else []) ++ ((if opens_shelf (Ok c) then ShelfFailed ∷ [] else []) ++ answers_of c)
