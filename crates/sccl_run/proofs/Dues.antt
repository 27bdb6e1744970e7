-- What is due, by the command that the words ask for and the bytes that came.
use Rattle.std.proofs.{Common.{◌≡◌, ◌<◌, ◌≤◌, ◌+◌, ℕ, Bool, true, false, IsTrue, nat_lt, length, drop, List, [], replicate, Result, Ok, Err, refl, sym, subst, ap, arith}, lemmas.{Bool.lt-ltb, List.{drop_all, length-replicate}}}
use Rattle.text_lines.specs.Check.{◌>>=◌}
use Rattle.command_words.specs.{declared.{command.Command.Command, fault.WordFault.WordFault}, Words.command_of}
use Rattle.run_rules.specs.{declared.status.Status.TheVariants.TooLong, Commands.{Ask, reads_source}, Refusals.{refused_at, refused_word}, Steps.whole_text, Tasks.{due, limit, task_of, words_asked}}
use Rattle.json_command.proofs.ComesBack.{short_whole}
use Rattle.sccl_run.specs.inner.Answering.{due_for}

-- ---- by the words

pub due_refused : (words : List (List ℕ)) (bytes : List ℕ) (fault : WordFault) → command_of words ≡ Err fault → due words bytes ≡ Err (refused_word fault.code fault.word)
unfolding due
due_refused words bytes fault e = ap (λ x. words_asked x >>= (λ c. whole_text (reads_source (Ok c)) bytes >>= (λ _. task_of c bytes))) e

pub due_command : (words : List (List ℕ)) (bytes : List ℕ) (c : Command) → command_of words ≡ Ok c → due words bytes ≡ due_for c bytes
unfolding due
due_command words bytes c e = ap (λ x. words_asked x >>= (λ d. whole_text (reads_source (Ok d)) bytes >>= (λ _. task_of d bytes))) e

-- words that are refused ask for nothing
pub refused_asks_nothing : (such : Result Command WordFault → Bool) (words : List (List ℕ)) (fault : WordFault) → such (Err fault) ≡ false → command_of words ≡ Err fault → Ask such words → ⊥
refused_asks_nothing such words fault none refused ask = let asked : IsTrue (such (Err fault)) = subst (λ x. IsTrue (such x)) refused ask in absurd (cc)

-- and words that ask for a command ask for nothing else
pub asks_one : (such : Result Command WordFault → Bool) (words : List (List ℕ)) (c : Command) → command_of words ≡ Ok c → Ask such words → IsTrue (such (Ok c))
asks_one such words c is ask = subst (λ x. IsTrue (such x)) is ask

pub asks : (such : Result Command WordFault → Bool) (words : List (List ℕ)) (c : Command) → command_of words ≡ Ok c → IsTrue (such (Ok c)) → Ask such words
asks such words c is such_one = subst (λ x. IsTrue (such x)) (sym is) such_one

-- words that ask for no command that reads ask for one whose row says so
pub asks_no_reading : (words : List (List ℕ)) (c : Command) → command_of words ≡ Ok c → (Ask reads_source words → ⊥) → (reads_source (Ok c)) ≡ false
asks_no_reading words c is none = by_row (reads_source (Ok c)) (λ reads. none (asks reads_source words c is reads))
  where
    by_row : (b : Bool) → (IsTrue b → ⊥) → b ≡ false
    by_row true not = absurd (not refl)
    by_row false not = refl

-- ---- by the bytes

pub short_due : (c : Command) (bytes : List ℕ) → length bytes ≤ limit → due_for c bytes ≡ task_of c bytes
short_due c bytes short = ap (λ x. x >>= (λ _. task_of c bytes)) (short_whole (reads_source (Ok c)) bytes short)

whole_long : (reads : Bool) (bytes : List ℕ) → IsTrue reads → limit < length bytes → whole_text reads bytes ≡ Err (refused_at TooLong 0 limit)
whole_long true bytes read long = let test : nat_lt limit (length bytes) ≡ true = lt-ltb limit (length bytes) long in rw test refl
whole_long false bytes read long = absurd (cc)

pub long_due : (c : Command) (bytes : List ℕ) → IsTrue (reads_source (Ok c)) → limit < length bytes → due_for c bytes ≡ Err (refused_at TooLong 0 limit)
long_due c bytes reads long = ap (λ x. x >>= (λ _. task_of c bytes)) (whole_long (reads_source (Ok c)) bytes reads long)

-- nothing is left behind a text that is not too long
pub nothing_behind : (bytes : List ℕ) → length bytes ≤ limit → drop (limit + 1) bytes ≡ []
nothing_behind bytes short = drop_all (limit + 1) bytes (omega (arith, short))

-- too many bytes came: where the source tells them, those that it had, and else some
pub record TooMany (tells : Bool) (had : List ℕ) : Type 0 where
  pub came : List ℕ
  pub long : limit < length came
  pub are : IsTrue tells → came ≡ had

so_many : (n : ℕ) (had : List ℕ) → limit < n → TooMany false had
so_many n had above = record { came = replicate n 0; long = subst (λ k. limit < k) (sym (length-replicate n 0)) above; are = λ no. absurd (cc) }

pub too_many : (tells : Bool) (had : List ℕ) → (IsTrue tells → limit < length had) → TooMany tells had
too_many true had long = record { came = had; long = long refl; are = λ told. refl }
too_many false had long = so_many (limit + 1) had (omega arith)
