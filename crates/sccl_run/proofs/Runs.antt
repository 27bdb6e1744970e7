-- How a run ends, from what its answer says.
use Rattle.std.proofs.{Common.{◌≡◌, ◌≢◌, ◌⊎◌, ◌++◌, ◌+◌, ◌≤◌, ℕ, Bool, true, false, IsTrue, List, length, take, drop, inl, inr, refl, sym, subst, ◌∙◌, arith}, lemmas.List.take_all}
use Rattle.run_rules.specs.{declared.{status.Status.{Status, TheVariants.{OutOfMemory, SourceFailed, SinkFailed, ShelfFailed}}, halt.Halt.{Halt, TheVariants.{Memory, Source, Shelf}}}, Commands.{Ask, reads_source}, Tasks.{limit, due}}
use Rattle.command_words.specs.Words.{command_of}
use Rattle.report_form.specs.Reading.{report_of}
use Rattle.report_laws.proofs.Readings.{read_by_spelling}
use Rattle.sccl_run.specs.{inner.Answering.{Answers, IsAnswerTo, IsHaltAt, files_of}, TopCall.{CountValue, IsEnd, IsSilent, IsTopCall, IsRun, LeftIsDue, RunValue, ToldValue}}
use Rattle.sccl_run.proofs.Calls.{given}

-- ---- what is left of the source

module _ (words : List (List ℕ)) (bytes left : List ℕ) where
  -- with these statuses it was read, where it was to be read
  left_read : (status : Status) → status ≢ OutOfMemory → status ≢ SourceFailed → (Ask reads_source words → left ≡ drop (limit + 1) bytes) → LeftIsDue words bytes left status
  left_read status other another read = record { read = λ ask _ _. read ask; memory = λ e. absurd (other e); failed = λ e. absurd (another e) }

  pub left_answered : (status : Status) → Answers (command_of words) status → (Ask reads_source words → left ≡ drop (limit + 1) bytes) → LeftIsDue words bytes left status
  left_answered status there = left_read status (given (command_of words) status there).memory (given (command_of words) status there).source

  pub left_cut_off : (Ask reads_source words → left ≡ drop (limit + 1) bytes) → LeftIsDue words bytes left SinkFailed
  left_cut_off = left_read SinkFailed (λ e. cc) (λ e. cc)

  pub left_unshelved : left ≡ drop (limit + 1) bytes → LeftIsDue words bytes left ShelfFailed
  left_unshelved read = left_read ShelfFailed (λ e. cc) (λ e. cc) (λ ask. read)

  pub left_without_memory : (left ≡ bytes) ⊎ (left ≡ drop (limit + 1) bytes) → LeftIsDue words bytes left OutOfMemory
  left_without_memory kept = record { read = λ _ other _. absurd (other refl); memory = λ _. kept; failed = λ e. absurd (cc) }

  pub left_unread : (count : ℕ) × (count ≤ limit + 1) × (left ≡ drop count bytes) → LeftIsDue words bytes left SourceFailed
  left_unread part = record { read = λ _ _ other. absurd (other refl); memory = λ e. absurd (cc); failed = λ _. part }

-- ---- what is written

-- the text, as it stands in the answer
pub appended_as : (before now text other : List ℕ) → now ≡ before ++ other → other ≡ text → now ≡ before ++ take (length text) text
appended_as before now text other appended same = subst (λ end. now ≡ before ++ end) (same ∙ sym (take_all (length text) text (omega arith))) appended

-- and a part of it, where the sink tells what it took
pub record IsPart (tells : Bool) (before now text : List ℕ) : Type 0 where
  pub count : ℕ
  pub written : IsTrue tells → now ≡ before ++ take count text

pub part_of : (tells : Bool) (before now text other : List ℕ) → other ≡ text → {A : ℕ → Type 0} → (IsTrue tells → (count : ℕ) × A count × (now ≡ before ++ take count other)) → IsPart tells before now text
part_of true before now text other same prefix = let part = prefix refl in record { count = part.0; written = λ _. subst (λ end. now ≡ before ++ take part.0 end) same part.2 }
part_of false before now text other same prefix = record { count = 0; written = λ no. absurd (cc) }

-- the status by which a run without an answer ends
abbrev pub ended_by : Halt → Status
ended_by Memory = OutOfMemory
ended_by Source = SourceFailed
ended_by Shelf = ShelfFailed

silent_by : (halt : Halt) → IsSilent (ended_by halt) × (ended_by halt ≡ ShelfFailed → halt ≡ Shelf)
silent_by Memory = (inl refl, λ e. absurd (cc))
silent_by Source = (inr (inl refl), λ e. absurd (cc))
silent_by Shelf = (inr (inr refl), λ e. refl)

-- ---- the whole run

module _ (x : RunValue) (told : ToldValue) (source sink shelf : CountValue) (SourceStays SinkStays ShelfStays : Type 0) where
  abbrev Call : Type 0
  Call = IsTopCall x.words x.status source sink shelf SourceStays SinkStays ShelfStays

  abbrev Left : Type 0
  Left = IsTrue told.source → LeftIsDue x.words x.bytes x.left x.status

  abbrev Run : Type 0
  Run = IsRun x told source sink shelf SourceStays SinkStays ShelfStays

  run_so : (came : List ℕ) → (IsTrue told.source → Ask reads_source x.words → came ≡ x.bytes) → Call → Left → IsEnd (due x.words came) x told → Run
  unfolding due
  run_so came are call left end = record { call = call; left = left; came = came; are = are; read = report_of; reads = read_by_spelling; end = end }

  answered : (status : Status) (text : List ℕ) (count : ℕ) → ((x.status ≡ status) × (length text ≤ count)) ⊎ (x.status ≡ SinkFailed) → Call → Left → IsAnswerTo x.words told.source x.bytes (files_of x told) status text → (IsTrue told.sink → x.now ≡ x.before ++ take count text) → Run
  answered status text count stands call left to written = run_so to.came to.are call left (inl (record { status = status; text = text; answer = to.answer; count = count; stands = stands; written = written }))

  -- the answer was written
  pub run_answered : (text : List ℕ) → Call → Left → IsAnswerTo x.words told.source x.bytes (files_of x told) x.status text → (IsTrue told.sink → x.now ≡ x.before ++ take (length text) text) → Run
  run_answered text = answered x.status text (length text) (inl (refl, omega arith))

  -- or a part of it
  pub run_cut_off : (status : Status) (text : List ℕ) (part : IsPart told.sink x.before x.now text) → x.status ≡ SinkFailed → Call → Left → IsAnswerTo x.words told.source x.bytes (files_of x told) status text → Run
  run_cut_off status text part failed call left to = answered status text part.count (inr failed) call left to part.written

  -- there is none
  pub run_halted : (halt : Halt) {at : Halt} → at ≡ halt → x.status ≡ ended_by halt → Call → Left → IsHaltAt x.words told.source x.bytes (files_of x told) at → Run
  run_halted halt is by call left to =
      let silent = silent_by halt in
      run_so to.came to.are call left (inr (record { silent = subst IsSilent (sym by) silent.0; shelf_last = λ e. to.last (is ∙ silent.1 (sym by ∙ e)); leaves = to.leaves }))
