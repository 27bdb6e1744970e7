-- From what came of the source to what is answered for the words.
use Rattle.std.proofs.{Common.{◌≡◌, ◌≢◌, ◌<◌, ℕ, ◌⊎◌, Bool, true, false, inl, inr, IsTrue, List, Option, None, Some, Result, Ok, Err, IfOk, IfErr, IfSome, IfNone, OnErr, IsErrAnd, Vec, Global, length, refl, sym, subst, ap, ◌∙◌, arith}, lemmas.Result.IfOk-weaker}
use Rattle.outer_ports.specs.{Port.HasCause, Shelf.FilesStay}
use Rattle.command_words.specs.declared.command.Command.TheVariants as command
use Rattle.command_words.specs.{declared.{command.Command.Command, fault.WordFault.WordFault}, Words.command_of}
use Rattle.run_rules.specs.{declared.{answer.Answer.Answer, halt.Halt.{Halt, TheVariants.{Shelf}}, status.Status.{Status, TheVariants.BadWords}}, Answers.{FilesValue, IsAnswer, LeavesOff, Says, Stay}, Commands.{Ask, opens_shelf, reads_source}}
use Rattle.run_rules.{specs.{Refusals.{Refusal, refusal_line, refused_word}, Tasks.{due, limit}}, proofs.Answered.{nothing_left_off, refused_answers}}
use Rattle.sccl_run.{specs.inner.Answering.{IsAnswerTo, IsHaltAt, due_for}, proofs.Dues.{asks_one, due_command, due_refused, too_many}}

-- ---- what is handed on

-- a fault that is handed on was there before
pub was_told : {A T : Type 0} (one : Result A Halt) (told : Halt) (last : Result T Halt) → one ≡ Err told → IsErrAnd last (λ e. e ≡ told) → (halt : Halt) → last ≡ Err halt → one ≡ Err halt
was_told one told (Ok x) was never halt e = absurd never
was_told one told (Err other) was is halt e = cc

pub passed_on : {A T : Type 0} (fault : Halt) (one : Result A Halt) (told : Halt) (last : Result T Halt) {before now : ℕ} → one ≡ Err told → IsErrAnd last (λ e. e ≡ told) → HasCause fault before now one → HasCause fault before now last
passed_on fault one told (Ok x) was never cause = absurd never
passed_on fault one told (Err other) was is cause = record { later = cause.later; rose = λ e. cause.rose (cc); stays = λ none. cause.stays (λ e. none (cc)) }

-- a fault that is handed on is no other
pub other_told : {T : Type 0} (told : Halt) (last : Result T Halt) → IsErrAnd last (λ e. e ≡ told) → (halt : Halt) → told ≢ halt → last ≢ Err halt
other_told told (Ok x) never halt other e = absurd never
other_told told (Err it) is halt other e = other (cc)

-- an answer is no fault
pub not_err : {T E : Type 0} {x : T} {e : E} → Ok x ≢ Err e
not_err e = cc

-- a port that had no fault before
pub stood : {T : Type 0} {fault : Halt} {last : Result T Halt} {before now : ℕ} → last ≢ Err fault → now ≡ before → HasCause fault before now last
stood never same = record { later = omega (arith, same); rose = λ e. absurd (never e); stays = λ _. same }

pub if_ok : {T E : Type 0} {P : Type 0} (last : Result T E) → P → IfOk last (λ _. P)
if_ok (Ok x) h = h
if_ok (Err e) h = tt

pub read_or_not : (reads : Bool) {A B : Type 0} → (reads ≡ false → A) → (reads ≡ true → B) → A ⊎ B
read_or_not false a b = inl (a refl)
read_or_not true a b = inr (b refl)

-- what opens the shelf reads the source
pub opens_read : (c : Command) → IsTrue (opens_shelf (Ok c)) → IsTrue (reads_source (Ok c))
opens_read (command.Family kind size) never = absurd (cc)
opens_read (command.Trial n) never = absurd (cc)
opens_read _ opens = refl

-- ---- what came

-- some bytes: those of the text, or where too many came, more than are read; and those that the source had where it tells them and is read
pub record HasCome (words : List (List ℕ)) (tells : Bool) (had : List ℕ) (text : Option (Vec ℕ Global)) : Type 0 where
  pub came : List ℕ
  pub are : IsTrue tells → Ask reads_source words → came ≡ had
  pub whole : IfSome text (λ bytes. came ≡ bytes.items)
  pub long : IfNone text (limit < length came)

pub has_come : (words : List (List ℕ)) (c : Command) → command_of words ≡ Ok c → (tells : Bool) (had : List ℕ) (text : Option (Vec ℕ Global))
    → (IsTrue tells → IsTrue (reads_source (Ok c)) → IfSome text (λ bytes. bytes.items ≡ had)) → (IsTrue tells → IfNone text (limit < length had)) → HasCome words tells had text
has_come words c is tells had (Some bytes) whole longer = record { came = bytes.items; are = λ told ask. whole told (asks_one reads_source words c is ask); whole = refl; long = tt }
has_come words c is tells had None whole longer = let many = too_many tells had longer in record { came = many.came; are = λ told _. many.are told; whole = tt; long = many.long }

-- ---- what is answered

module _ (words : List (List ℕ)) (c : Command) (is : command_of words ≡ Ok c) (tells : Bool) (had : List ℕ) (text : Option (Vec ℕ Global)) (whole : IsTrue tells → IsTrue (reads_source (Ok c)) → IfSome text (λ bytes. bytes.items ≡ had)) (longer : IsTrue tells → IfNone text (limit < length had)) (files : FilesValue) where
  -- of any bytes that may have come
  abbrev Came : (List ℕ → Type 0) → Type 0
  Came P = (came : List ℕ) → IfSome text (λ bytes. came ≡ bytes.items) → IfNone text (limit < length came) → P came

  here : HasCome words tells had text
  here = has_come words c is tells had text whole longer

  pub answers_words : (x : Result Answer Halt) → Came (λ came. IfOk x (λ a. IsAnswer (due_for c came) files a.status a.text.items)) → IfOk x (λ a. IsAnswerTo words tells had files a.status a.text.items)
  answers_words x answers =
      IfOk-weaker x (λ a. IsAnswer (due_for c here.came) files a.status a.text.items) (λ a. IsAnswerTo words tells had files a.status a.text.items)
      (λ a answer. record { came = here.came; are = here.are; answer = subst (λ d. IsAnswer d files a.status a.text.items) (sym (due_command words here.came c is)) answer }) (answers here.came here.whole here.long)

  pub halts_words : (x : Result Answer Halt) → Came (λ came. x ≡ Err Shelf → (r : Refusal) → due_for c came ≡ Err r → ⊥) → Came (λ came. IsTrue files.told → OnErr x (LeavesOff (due_for c came) files.before files.after)) → IfErr x (IsHaltAt words tells had files)
  halts_words (Ok a) last leaves = tt
  halts_words (Err h) last leaves = record { came = here.came; are = here.are; last = λ e r refused. last here.came here.whole here.long (ap Err e) r (sym (due_command words here.came c is) ∙ refused); leaves = λ told. subst (λ d. LeavesOff d files.before files.after) (sym (due_command words here.came c is)) (leaves here.came here.whole here.long told) }

-- nothing was done before the source failed or memory ran out
pub halts_before : (words : List (List ℕ)) (tells : Bool) (had : List ℕ) (files : FilesValue) (x : Result Answer Halt) → FilesStay files.before files.after → (x ≡ Err Shelf → ⊥) → IfErr x (IsHaltAt words tells had files)
halts_before words tells had files (Ok a) stay other = tt
halts_before words tells had files (Err h) stay other = record { came = had; are = λ _ _. refl; last = λ e. absurd (other (ap Err e)); leaves = λ told. nothing_left_off (due words had) files.before files.after stay }

-- words that are refused
pub refused_words : (words : List (List ℕ)) (fault : WordFault) → command_of words ≡ Err fault → (tells : Bool) (had : List ℕ) (files : FilesValue) (status : Status) (text : List ℕ) → Stay files → Says BadWords (refusal_line (refused_word fault.code fault.word)) status text → IsAnswerTo words tells had files status text
refused_words words fault is tells had files status text stay says = record { came = had; are = λ _ _. refl; answer = refused_answers (due words had) (refused_word fault.code fault.word) status text (due_refused words had fault is) says files stay }
