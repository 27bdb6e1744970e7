-- What every run says, whatever the ports tell, from what its answer says.
use Rattle.std.proofs.Common.{◌≡◌, ◌≢◌, ℕ, List, inl, inr, Result, Ok, Err, refl, sym, subst, ap, ◌∙◌}
use Rattle.outer_ports.specs.Port.{HasCause, Rose}
use Rattle.command_words.specs.declared.command.JsonWhat.TheVariants as what
use Rattle.command_words.specs.{declared.{command.Command.Command, fault.WordFault.WordFault}, Words.command_of}
use Rattle.command_words.specs.declared.command.Command.TheVariants as command
use Rattle.run_rules.specs.{declared.{halt.Halt.{Halt, TheVariants.{Memory, Source, Shelf}}, status.Status.{Status, TheVariants.{OutOfMemory, BadWords, SourceFailed, SinkFailed, ShelfFailed}}}, Commands.{Ask, IsOneOf, IsRefusal, opens_shelf, reads_source}, Ends.answers_of}
use Rattle.sccl_run.specs.{inner.Answering.Answers, TopCall.{CountValue, EndsIfItFails, IsTopCall, IsSilent}}

-- ---- an answer

-- an answer has no status of a port that failed, or of memory
not_given : (c : Command) → (IsOneOf (answers_of c) OutOfMemory → ⊥) × (IsOneOf (answers_of c) SourceFailed → ⊥) × (IsOneOf (answers_of c) SinkFailed → ⊥) × (IsOneOf (answers_of c) ShelfFailed → ⊥)
not_given (command.Json what.Topology point) = (λ no. absurd (cc), λ no. absurd (cc), λ no. absurd (cc), λ no. absurd (cc))
not_given _ = (λ no. absurd (cc), λ no. absurd (cc), λ no. absurd (cc), λ no. absurd (cc))

-- with these statuses there is no answer
pub record IsGiven (s : Status) : Type 0 where
  pub memory : s ≢ OutOfMemory
  pub source : s ≢ SourceFailed
  pub sink : s ≢ SinkFailed
  pub shelf : s ≢ ShelfFailed

pub given : (asked : Result Command WordFault) (s : Status) → Answers asked s → IsGiven s
given (Ok c) s there = record { memory = λ e. (not_given c).0 (subst (IsOneOf (answers_of c)) e there); source = λ e. (not_given c).1 (subst (IsOneOf (answers_of c)) e there); sink = λ e. (not_given c).2 (subst (IsOneOf (answers_of c)) e there); shelf = λ e. (not_given c).3 (subst (IsOneOf (answers_of c)) e there) }
given (Err fault) s is = record { memory = λ e. let f : BadWords ≡ OutOfMemory = sym is ∙ e in cc; source = λ e. let f : BadWords ≡ SourceFailed = sym is ∙ e in cc; sink = λ e. let f : BadWords ≡ SinkFailed = sym is ∙ e in cc; shelf = λ e. let f : BadWords ≡ ShelfFailed = sym is ∙ e in cc }

-- ---- every run

pub quiet : (failed status : Status) (count : CountValue) → status ≢ failed → count.now ≡ count.before → EndsIfItFails failed status count
quiet failed status count other same = record { only = λ e. absurd (other e); kept = λ _. same }

loud : (failed : Status) (count : CountValue) → Rose count.before count.now → EndsIfItFails failed failed count
loud failed count rose = record { only = λ _. rose; kept = λ other. absurd (other refl) }

-- with any other status something may be written
pub spoken : (s : Status) → s ≢ OutOfMemory → s ≢ SourceFailed → s ≢ ShelfFailed → IsSilent s → ⊥
spoken s memory source shelf (inl e) = memory e
spoken s memory source shelf (inr (inl e)) = source e
spoken s memory source shelf (inr (inr e)) = shelf e

-- a port is as it was where nothing failed
pub unmoved : {T E : Type 0} {fault : E} {before now : ℕ} {x : T} → HasCause fault before now (Ok x) → now ≡ before
unmoved cause = cause.stays (λ e. cc)

-- and where the run halted, but not by the port's fault
unmoved_by : {T : Type 0} {fault halt other : Halt} {before now : ℕ} → halt ≡ other → other ≢ fault → HasCause {T = T} fault before now (Err halt) → now ≡ before
unmoved_by is differ cause = cause.stays (λ e. differ (cc))

module _ (words : List (List ℕ)) (source sink shelf : CountValue) (SourceStays SinkStays ShelfStays : Type 0) {T : Type 0} where
  -- it is answered
  pub call_answered : (status : Status) → Answers (command_of words) status → {x : T} → HasCause Source source.before source.now (Ok x) → {S F : Type 0} {failed : F} {s : S} → HasCause failed sink.before sink.now (Ok s) → HasCause Shelf shelf.before shelf.now (Ok x) → (¬ Ask reads_source words → SourceStays) → (¬ Ask opens_shelf words → ShelfStays) → (IsRefusal status → ShelfStays)
      → IsTopCall words status source sink shelf SourceStays SinkStays ShelfStays
  call_answered status there read written kept unread unopened refused =
      let g : IsGiven status = given (command_of words) status there in
      record { source_fails = quiet SourceFailed status source g.source (unmoved read); sink_fails = quiet SinkFailed status sink g.sink (unmoved written); shelf_fails = quiet ShelfFailed status shelf g.shelf (unmoved kept); reads = λ e. absurd (g.source e); unread = unread; opens = λ e. absurd (g.shelf e); unopened = unopened; behind_source = λ e. absurd (g.source e); behind_refusals = refused; silent = λ silent. absurd (spoken status g.memory g.source g.shelf silent) }

  -- the sink failed
  pub call_cut_off : {x : T} → HasCause Source source.before source.now (Ok x) → Rose sink.before sink.now → HasCause Shelf shelf.before shelf.now (Ok x) → (¬ Ask reads_source words → SourceStays) → (¬ Ask opens_shelf words → ShelfStays)
      → IsTopCall words SinkFailed source sink shelf SourceStays SinkStays ShelfStays
  call_cut_off read rose kept unread unopened = record { source_fails = quiet SourceFailed SinkFailed source (λ e. cc) (unmoved read); sink_fails = loud SinkFailed sink rose; shelf_fails = quiet ShelfFailed SinkFailed shelf (λ e. cc) (unmoved kept); reads = λ e. absurd (cc); unread = unread; opens = λ e. absurd (cc); unopened = unopened; behind_source = λ e. absurd (cc); behind_refusals = λ no. absurd (cc); silent = λ silent. absurd (spoken SinkFailed (λ e. cc) (λ e. cc) (λ e. cc) silent) }

  -- memory ran out
  pub call_without_memory : {halt : Halt} → halt ≡ Memory → HasCause {T = T} Source source.before source.now (Err halt) → sink.now ≡ sink.before → HasCause {T = T} Shelf shelf.before shelf.now (Err halt) → (¬ Ask reads_source words → SourceStays) → SinkStays → (¬ Ask opens_shelf words → ShelfStays)
      → IsTopCall words OutOfMemory source sink shelf SourceStays SinkStays ShelfStays
  call_without_memory is read written kept unread stays unopened = record { source_fails = quiet SourceFailed OutOfMemory source (λ e. cc) (unmoved_by is (λ e. cc) read); sink_fails = quiet SinkFailed OutOfMemory sink (λ e. cc) written; shelf_fails = quiet ShelfFailed OutOfMemory shelf (λ e. cc) (unmoved_by is (λ e. cc) kept); reads = λ e. absurd (cc); unread = unread; opens = λ e. absurd (cc); unopened = unopened; behind_source = λ e. absurd (cc); behind_refusals = λ no. absurd (cc); silent = λ _. stays }

  -- the source failed
  pub call_unread : Ask reads_source words → {halt : Halt} → halt ≡ Source → HasCause {T = T} Source source.before source.now (Err halt) → sink.now ≡ sink.before → HasCause {T = T} Shelf shelf.before shelf.now (Err halt) → SinkStays → ShelfStays
      → IsTopCall words SourceFailed source sink shelf SourceStays SinkStays ShelfStays
  call_unread ask is rose written kept stays untouched = record { source_fails = loud SourceFailed source (rose.rose (ap Err is)); sink_fails = quiet SinkFailed SourceFailed sink (λ e. cc) written; shelf_fails = quiet ShelfFailed SourceFailed shelf (λ e. cc) (unmoved_by is (λ e. cc) kept); reads = λ _. ask; unread = λ none. absurd (none ask); opens = λ e. absurd (cc); unopened = λ _. untouched; behind_source = λ _. untouched; behind_refusals = λ _. untouched; silent = λ _. stays }

  -- the shelf failed
  pub call_unshelved : Ask opens_shelf words → {halt : Halt} → halt ≡ Shelf → HasCause {T = T} Source source.before source.now (Err halt) → sink.now ≡ sink.before → HasCause {T = T} Shelf shelf.before shelf.now (Err halt) → (¬ Ask reads_source words → SourceStays) → SinkStays
      → IsTopCall words ShelfFailed source sink shelf SourceStays SinkStays ShelfStays
  call_unshelved ask is read written rose unread stays = record { source_fails = quiet SourceFailed ShelfFailed source (λ e. cc) (unmoved_by is (λ e. cc) read); sink_fails = quiet SinkFailed ShelfFailed sink (λ e. cc) written; shelf_fails = loud ShelfFailed shelf (rose.rose (ap Err is)); reads = λ e. absurd (cc); unread = unread; opens = λ _. ask; unopened = λ none. absurd (none ask); behind_source = λ e. absurd (cc); behind_refusals = λ no. absurd (cc); silent = λ _. stays }
