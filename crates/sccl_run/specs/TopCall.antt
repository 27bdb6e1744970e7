-- The theorem of the top call. A run is answered, or not written whole, or halted; and which answer it is the words and the bytes decide.
use Rattle.std.specs.Prelude.{◌≡◌, ◌≢◌, ◌⊎◌, ℕ, ◌+◌, ◌≤◌, Bool, IsTrue, List, ◌++◌, length, take, drop, Result, Err}
use Rattle.outer_ports.specs.{Files.Files, Port.Rose}
use Rattle.report_laws.specs.Shapes.{ReadsAs}
use Rattle.run_rules.specs.{declared.status.Status.{Status, TheVariants.{OutOfMemory, SourceFailed, SinkFailed, ShelfFailed}}, Refusals.Refusal}
use Rattle.run_rules.specs.{Commands.{Ask, IsRefusal, opens_shelf, reads_source}, Tasks.{Task, Reader, limit, due_by}, Answers.{IsAnswer, LeavesOff}}

-- ---- every run, whatever the ports tell

-- a count of faults before and after
pub record CountValue : Type 0 where
  pub before : ℕ
  pub now : ℕ

-- a fault of this port ends the run with this status, and nothing else does
pub record EndsIfItFails (failed status : Status) (count : CountValue) : Type 0 where
  pub only : status ≡ failed → Rose count.before count.now
  pub kept : status ≢ failed → count.now ≡ count.before

-- with these nothing is written
abbrev pub IsSilent : Status → Type 0
IsSilent status = (status ≡ OutOfMemory) ⊎ ((status ≡ SourceFailed) ⊎ (status ≡ ShelfFailed))

pub record IsTopCall (words : List (List ℕ)) (status : Status) (source sink shelf : CountValue) (SourceStays SinkStays ShelfStays : Type 0) : Type 0 where
  pub source_fails : EndsIfItFails SourceFailed status source
  pub sink_fails : EndsIfItFails SinkFailed status sink
  pub shelf_fails : EndsIfItFails ShelfFailed status shelf
  pub reads : status ≡ SourceFailed → Ask reads_source words
  pub unread : ¬ Ask reads_source words → SourceStays
  -- the shelf is opened where the words ask for it, behind the source and behind all refusals
  pub opens : status ≡ ShelfFailed → Ask opens_shelf words
  pub unopened : ¬ Ask opens_shelf words → ShelfStays
  pub behind_source : status ≡ SourceFailed → ShelfStays
  pub behind_refusals : IsRefusal status → ShelfStays
  pub silent : IsSilent status → SinkStays

-- ---- the values of one run

-- its words and its status; the bytes that the source had, and those that it has left; what had been written before, and what now; the files before and after
pub record RunValue : Type 0 where
  pub words : List (List ℕ)
  pub status : Status
  pub bytes : List ℕ
  pub left : List ℕ
  pub before : List ℕ
  pub now : List ℕ
  pub files : Files
  pub files_after : Files

-- whether the ports tell
pub record ToldValue : Type 0 where
  pub source : Bool
  pub sink : Bool
  pub shelf : Bool

-- ---- how it ends

-- there is an answer, and its text was written: the whole, or its first bytes before the sink failed
pub record IsAnsweredRun (due : Result Task Refusal) (x : RunValue) (told : ToldValue) : Type 0 where
  pub status : Status
  pub text : List ℕ
  pub answer : IsAnswer due (record { told = told.shelf; before = x.files; after = x.files_after }) status text
  pub count : ℕ
  pub stands : ((x.status ≡ status) × (length text ≤ count)) ⊎ (x.status ≡ SinkFailed)
  pub written : IsTrue told.sink → x.now ≡ x.before ++ take count text

-- there is none: memory ran out, or the source failed, or the shelf, which is opened behind all refusals
pub record IsHalted (due : Result Task Refusal) (x : RunValue) (told : ToldValue) : Type 0 where
  pub silent : IsSilent x.status
  pub shelf_last : x.status ≡ ShelfFailed → (r : Refusal) → due ≡ Err r → ⊥
  pub leaves : IsTrue told.shelf → LeavesOff due x.files x.files_after

abbrev pub IsEnd : Result Task Refusal → RunValue → ToldValue → Type 0
IsEnd due x told = IsAnsweredRun due x told ⊎ IsHalted due x told

-- ---- the whole theorem

-- what is left of the source: all but the first `limit + 1` bytes, which is nothing where no more than `limit` came; all, where memory ran out before they were read
pub record LeftIsDue (words : List (List ℕ)) (bytes left : List ℕ) (status : Status) : Type 0 where
  pub read : Ask reads_source words → status ≢ OutOfMemory → status ≢ SourceFailed → left ≡ drop (limit + 1) bytes
  pub memory : status ≡ OutOfMemory → (left ≡ bytes) ⊎ (left ≡ drop (limit + 1) bytes)
  pub failed : status ≡ SourceFailed → (count : ℕ) × (count ≤ limit + 1) × (left ≡ drop count bytes)

-- some bytes came, and where the source tells them and is read they are those that it had; the run ends as they and the words say, where reports are read by their spelling
pub record IsRun (x : RunValue) (told : ToldValue) (source sink shelf : CountValue) (SourceStays SinkStays ShelfStays : Type 0) : Type 0 where
  pub call : IsTopCall x.words x.status source sink shelf SourceStays SinkStays ShelfStays
  pub left : IsTrue told.source → LeftIsDue x.words x.bytes x.left x.status
  pub came : List ℕ
  pub are : IsTrue told.source → Ask reads_source x.words → came ≡ x.bytes
  pub read : Reader
  pub reads : (text : List ℕ) → ReadsAs text (read text)
  pub end : IsEnd (due_by read x.words came) x told
