-- With which statuses a run ends: with those that are listed for its words, whatever the ports tell.
use Rattle.std.{proofs.Common.{◌≡◌, ◌⊎◌, ◌≤◌, ◌==◌, ◌||◌, ◌++◌, ℕ, Bool, true, false, IsTrue, List, [], ◌∷◌, inl, inr, Result, Ok, Err, refl, sym, subst, if◌then◌else◌, nat_lt, length}, specs.{Prelude.⊤, List.list_any}}
use Rattle.text_lines.specs.Check.{◌>>=◌, refuse}
use Rattle.command_words.specs.declared.command.JsonWhat.TheVariants as what
use Rattle.command_words.specs.{declared.{command.Command.Command, fault.WordFault.WordFault}, Words.command_of}
use Rattle.command_words.specs.declared.command.Command.TheVariants as command
use Rattle.run_rules.specs.{declared.status.Status.{Status, TheVariants.{OutOfMemory, BadWords, SourceFailed, SinkFailed, ShelfFailed, TooLong}}, Statuses.status_number, Commands.{IsOneOf, opens_shelf, reads_source}}
use Rattle.run_rules.specs.{Ends.{answers_of, ends_of}, Said.{FilesValue, IsSaid}, Answers.IsAnswer, Refusals.{Refusal, refusal_line, refused_at, refused_word}, Steps.whole_text, Tasks.{due, limit, task_of}}
use Rattle.run_rules.proofs.Ends.{With, command_ends}
use Rattle.sccl_run.{specs.{inner.Answering.{Answers, due_for}, TopCall.{CountValue, IsEnd, IsRun, IsSilent, RunValue, ToldValue}}, proofs.{Dues.{due_command, due_refused}, Ended.same_reading}}

-- ---- lists of statuses

-- one of these, with others before it
behind : (xs ys : List Status) (s : Status) → IsOneOf ys s → IsOneOf (xs ++ ys) s
behind [] ys s there = there
behind (x ∷ xs) ys s there = either (status_number x == status_number s) (behind xs ys s there)
  where
    either : (b : Bool) → IsOneOf (xs ++ ys) s → IsTrue (b || list_any (λ y. status_number y == status_number s) (xs ++ ys))
    either true more = refl
    either false more = more

-- ---- the words

-- a status with which a command answers can end the words
answer_ends : (c : Command) (s : Status) → IsOneOf (answers_of c) s → IsOneOf (ends_of (Ok c)) s
answer_ends c s there = behind (if reads_source (Ok c) then SourceFailed ∷ [] else []) _ s (behind (if opens_shelf (Ok c) then ShelfFailed ∷ [] else []) (answers_of c) s there)

words_end : (asked : Result Command WordFault) (s : Status) → Answers asked s → IsOneOf (OutOfMemory ∷ SinkFailed ∷ ends_of asked) s
words_end (Ok c) s there = behind (OutOfMemory ∷ SinkFailed ∷ []) (ends_of (Ok c)) s (answer_ends c s there)
words_end (Err fault) s is = subst (IsOneOf (OutOfMemory ∷ SinkFailed ∷ BadWords ∷ [])) (sym is) refl

-- what reads can end by a fault of the source, and what opens files by one of the shelf
source_in : (reads : Bool) (rest : List Status) → IsTrue reads → IsOneOf (OutOfMemory ∷ SinkFailed ∷ ((if reads then SourceFailed ∷ [] else []) ++ rest)) SourceFailed
source_in true rest reads = refl
source_in false rest reads = absurd (cc)

shelf_in : (reads opens : Bool) (rest : List Status) → IsTrue opens → IsOneOf (OutOfMemory ∷ SinkFailed ∷ ((if reads then SourceFailed ∷ [] else []) ++ ((if opens then ShelfFailed ∷ [] else []) ++ rest))) ShelfFailed
shelf_in true true rest opens = refl
shelf_in false true rest opens = refl
shelf_in reads false rest opens = absurd (cc)

source_listed : (asked : Result Command WordFault) → IsTrue (reads_source asked) → IsOneOf (OutOfMemory ∷ SinkFailed ∷ ends_of asked) SourceFailed
source_listed (Ok c) reads = source_in (reads_source (Ok c)) _ reads
source_listed (Err fault) reads = absurd (cc)

shelf_listed : (asked : Result Command WordFault) → IsTrue (opens_shelf asked) → IsOneOf (OutOfMemory ∷ SinkFailed ∷ ends_of asked) ShelfFailed
shelf_listed (Ok c) opens = shelf_in (reads_source (Ok c)) (opens_shelf (Ok c)) (answers_of c) opens
shelf_listed (Err fault) opens = absurd (cc)

-- ---- an answer

-- a command that reads may refuse what is too long
long_listed : (c : Command) → IsTrue (reads_source (Ok c)) → IsOneOf (answers_of c) TooLong
long_listed (command.Family kind size) reads = absurd (cc)
long_listed (command.Trial n) reads = absurd (cc)
long_listed (command.Json what.Topology point) reads = refl
long_listed _ reads = refl

pub whole_with : (P : Status → Type 0) (reads : Bool) (bytes : List ℕ) → (IsTrue reads → P TooLong) → With P (whole_text reads bytes)
whole_with P true bytes h = by_length (nat_lt limit (length bytes))
  where
    by_length : (long : Bool) → With P (refuse long (refused_at TooLong 0 limit))
    by_length true = h refl
    by_length false = tt
whole_with P false bytes h = tt

module _ (files : FilesValue) (status : Status) (text : List ℕ) where
  command_answers : (c : Command) (bytes : List ℕ) → IsAnswer (due_for c bytes) files status text → IsOneOf (answers_of c) status
  command_answers c bytes answer = by_whole (whole_text (reads_source (Ok c)) bytes) (whole_with (IsOneOf (answers_of c)) (reads_source (Ok c)) bytes (long_listed c)) answer
    where
      by_whole : (w : Result (Unit {0}) Refusal) → With (IsOneOf (answers_of c)) w → IsAnswer (w >>= (λ _. task_of c bytes)) files status text → IsOneOf (answers_of c) status
      by_whole (Ok u) listed given = command_ends c bytes files status text given
      by_whole (Err r) listed given = subst (IsOneOf (answers_of c)) (sym given.says.status) listed

  words_answered : (words : List (List ℕ)) (came : List ℕ) → IsAnswer (due words came) files status text → Answers (command_of words) status
  words_answered words came answer = by_words (command_of words) refl
    where
      by_words : (asked : Result Command WordFault) → command_of words ≡ asked → Answers asked status
      by_words (Ok c) is = command_answers c came (subst (λ d. IsAnswer d files status text) (due_command words came c is) answer)
      by_words (Err fault) is =
          let said : IsSaid BadWords (refusal_line (refused_word fault.code fault.word)) files status text = subst (λ d. IsAnswer d files status text) (due_refused words came fault is) answer in
          said.says.status

-- ---- a run

pub ends_listed : (x : RunValue) (told : ToldValue) (source sink shelf : CountValue) → IsRun x told source sink shelf ⊤ ⊤ ⊤
    → IsOneOf (OutOfMemory ∷ SinkFailed ∷ ends_of (command_of x.words)) x.status
ends_listed x told source sink shelf run = by_end (subst (λ d. IsEnd d x told) (same_reading run.read run.reads x.words run.came) run.end)
  where
    Listed : Status → Type 0
    Listed = IsOneOf (OutOfMemory ∷ SinkFailed ∷ ends_of (command_of x.words))

    by_silence : IsSilent x.status → Listed x.status
    by_silence (inl e) = subst Listed (sym e) refl
    by_silence (inr (inl e)) = subst Listed (sym e) (source_listed (command_of x.words) (run.call.reads e))
    by_silence (inr (inr e)) = subst Listed (sym e) (shelf_listed (command_of x.words) (run.call.opens e))

    by_stand : (status : Status) (A : Type 0) → Answers (command_of x.words) status → ((x.status ≡ status) × A) ⊎ (x.status ≡ SinkFailed) → Listed x.status
    by_stand status A answers (inl same) = subst Listed (sym same.0) (words_end (command_of x.words) status answers)
    by_stand status A answers (inr failed) = subst Listed (sym failed) refl

    by_end : IsEnd (due x.words run.came) x told → Listed x.status
    by_end (inl a) = by_stand a.status (length a.text ≤ a.count) (words_answered _ a.status a.text x.words run.came a.answer) a.stands
    by_end (inr halt) = by_silence halt.silent
