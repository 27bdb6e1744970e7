-- What the checks of one line took stands there.
use Rattle.std.proofs.{Common.{arith, ◌≡◌, ℕ, Bool, true, not, List, [], ◌∷◌, ◌++◌, Option, Some, Result, Ok, ap, ◌∙◌, subst, bytes_eq}, lemmas.{Bool.not-false, Slice.Eq.bytes_eq-Decides}}
use Rattle.text_lines.{specs.{Text.{Row, Place, words_of}, Check.{◌>>=◌, refuse, first, line_part}}, proofs.{Checks.{bind_ok, refuse_ok, refuse_alone, part_ok, ok_is}, Gives.{Gives, Between, line_gives, Takes}, Rows.{row_of, row_back}}}
use Rattle.report_form.specs.{declared.fault.ReportCode.ReportCode, Lines.{whole_line, tokens_line, fixed_line, no_line}}
use Rattle.report_form.specs.declared.fault.ReportCode.TheVariants as code

-- a whole line whose bytes fall into these words
pub whole_words : (line : Option Row) (row : Row) (words : List (List ℕ)) → whole_line line ≡ Ok row → words_of row.bytes ≡ words → line ≡ Some (row_of words)
whole_words line row words e same = grind (arith, row_back, refuse_ok, ok_is, not-false)

-- a whole line, by a check of its tokens
abbrev pub on_words : {A : Type 0} → (List (List ℕ) → Result A ReportCode) → Option Row → Result A ReportCode
on_words check line = tokens_line line >>= check

-- ---- a shape, and then a rule

abbrev pub ruled_by : {A B : Type 0} → (List (List ℕ) → Result A ReportCode) → (A → Bool) → (A → B) → List (List ℕ) → Result B ReportCode
ruled_by shape rule made words = shape words >>= (λ a. refuse (not (rule a)) code.Limits >>= (λ u. Ok (made a)))

-- the words are those of the value, and this holds of it
abbrev pub Spelled : {B : Type 0} → (B → List (List ℕ)) → (B → Type 0) → List (List ℕ) → B → Type 0
Spelled spell N words x = (words ≡ spell x) × N x

module _ {A B : Type 0} (shape : List (List ℕ) → Result A ReportCode) (rule : A → Bool) (made : A → B) where
  -- what holds of each value of the line holds of the one that was read
  pub ruled_spelled : (spell : B → List (List ℕ)) (N : B → Type 0) → ((words : List (List ℕ)) (a : A) → shape words ≡ Ok a → rule a ≡ true → Spelled spell N words (made a))
      → (line : Option Row) (x : B) → on_words (ruled_by shape rule made) line ≡ Ok x → (line ≡ Some (row_of (spell x))) × N x
  ruled_spelled spell N each line x e =
      let (words, tokens, e1) = bind_ok (tokens_line line) (ruled_by shape rule made) x e in
      let (row, found, e2) = bind_ok (whole_line line) (λ r. Ok (words_of r.bytes)) words tokens in
      let (a, shaped, e3) = bind_ok (shape words) (λ a. refuse (not (rule a)) code.Limits >>= (λ u. Ok (made a))) x e1 in
      let (kept, e4) = refuse_ok (not (rule a)) code.Limits (λ u. Ok (made a)) x e3 in
      let (same, holds) = subst (λ y. Spelled spell N words y) (ok_is {C = ReportCode} (made a) x e4) (each words a shaped (not-false (rule a) kept)) in
      (whole_words line row words found (ok_is {C = ReportCode} (words_of row.bytes) words e2) ∙ ap (λ ws. Some (row_of ws)) same, holds)

  pub ruled_gives : (spell : B → List (List ℕ)) (N : B → Type 0) → ((words : List (List ℕ)) (a : A) → shape words ≡ Ok a → rule a ≡ true → Spelled spell N words (made a))
      → (p : Place) → Gives (λ (e : ReportCode × ℕ). e.1 ≡ p.number) (λ (x : B × Place). N x.0 × Between (spell x.0 ∷ []) p x.1) (line_part (on_words (ruled_by shape rule made)) p)
  ruled_gives spell N each p = line_gives (on_words (ruled_by shape rule made)) spell p (λ x e. ruled_spelled spell N each (first p.rows) x e)

-- lines that repeat, each behind those before it
pub ruled_takes : {A : Type 0} (word : List ℕ) (shape : List (List ℕ) → Result A ReportCode) (rule : List A → A → Bool) (spell : A → List (List ℕ)) (Q : List A → Type 0)
    → ((before : List A) (words : List (List ℕ)) (x : A) → Q before → shape words ≡ Ok x → rule before x ≡ true → Spelled spell (λ y. Q (before ++ y ∷ [])) words x) → Takes word (λ before. on_words (ruled_by shape (rule before) (λ x. x))) spell Q
ruled_takes word shape rule spell Q each before line x begun are e = ruled_spelled shape (rule before) (λ y. y) spell (λ y. Q (before ++ y ∷ [])) (λ words a. each before words a are) line x e

-- ---- lines without a value

pub fixed_gives : (bytes : List ℕ) (words : List (List ℕ)) → words_of bytes ≡ words → (p : Place) → Gives (λ (e : ReportCode × ℕ). e.1 ≡ p.number) (λ (x : Unit {0} × Place). Unit {0} × Between (words ∷ []) p x.1) (line_part (fixed_line bytes) p)
fixed_gives bytes words tokens p = line_gives (fixed_line bytes) (λ u. words) p (λ u e. (there (first p.rows) u e, tt))
  where
    there : (line : Option Row) (u : Unit {0}) → fixed_line bytes line ≡ Ok u → line ≡ Some (row_of words)
    there line u e =
        let (row, found, e1) = bind_ok (whole_line line) (λ r. refuse (not (bytes_eq r.bytes bytes)) code.BadLine) u e in
        whole_words line row words found (ap words_of ((bytes_eq-Decides row.bytes bytes).0 (not-false (bytes_eq row.bytes bytes) (refuse_alone (not (bytes_eq row.bytes bytes)) code.BadLine u e1))) ∙ tokens)

pub nothing_take : (p : Place) (x : Unit {0} × Place) → line_part no_line p ≡ Ok x → p.rows ≡ []
nothing_take p x e = grind (arith, part_ok)
