-- What is said does not depend on how the bytes were cut.
use Rattle.std.proofs.lemmas.{Bool.{false≢true, cases_Bool}, Grind.common_steps, List.{drop-drop, drop-append-le, length-drop}}
use Rattle.std.proofs.Common.{◌≡◌, ℕ, suc, ◌+◌, ◌-◌, ◌≤◌, true, false, List, [], ◌∷◌, ◌++◌, length, drop, Option, Some, None, Result, Ok, Err, refl, sym, ap, ◌∙◌, subst, ⊎_elim, arith, ◌==◌}
use Rattle.text_lines.specs.Text.{Row, onto_row, rows_of}
use Rattle.cnf_formula.specs.declared.line.LratLine.{LratLine}
use Rattle.lrat_text.specs.{declared.fault.LratTextFault.LratTextFault, Reading.{row_says, size_of, Said, nothing_said, said_at, said_by, ReaderValue, fed, said_to, fault_of, with_taken, after_next}}

-- ---- the first line

-- a whole line stays the first, and takes its bytes off the front
pub record FirstLine (bytes piece : List ℕ) (row : Row) (rows : List Row) : Type 0 where
  pub rest : List ℕ
  pub rows_are : rows ≡ rows_of rest
  pub more : rows_of (bytes ++ piece) ≡ row ∷ rows_of (rest ++ piece)
  pub behind : drop (size_of row) bytes ≡ rest
  pub within : size_of row ≤ length bytes

abbrev IsFirst : List ℕ → List Row → Type 0
IsFirst bytes [] = Unit {0}
IsFirst bytes (row ∷ rows) = row.whole ≡ true → (piece : List ℕ) → FirstLine bytes piece row rows

onto_first : (b : ℕ) (bytes : List ℕ) (rows : List Row) → (b == 10) ≡ false → rows_of bytes ≡ rows → IsFirst bytes rows → IsFirst (b ∷ bytes) (onto_row b rows)
onto_first b bytes [] e is first = λ w piece. absurd (false≢true w)
onto_first b bytes (r ∷ rs) e is first = λ w piece.
    let f = first w piece in
    let size : size_of (record { bytes = b ∷ r.bytes; whole = r.whole }) ≡ suc (size_of r) = omega arith in
    record {
      rest = f.rest;
      rows_are = f.rows_are;
      more = rw e (ap (onto_row b) f.more);
      behind = ap (λ n. drop n (b ∷ bytes)) size ∙ f.behind;
      within = omega (arith, size, f.within);
    }

first_line : (bytes : List ℕ) → IsFirst bytes (rows_of bytes)
first_line [] = tt
first_line (b ∷ bytes) =
    ⊎_elim (λ e. rw e (λ w piece. record { rest = bytes; rows_are = refl; more = rw e refl; behind = refl; within = omega arith }))
    (λ e. rw e (onto_first b bytes (rows_of bytes) e refl (first_line bytes)))
    (cases_Bool (b == 10))

pub first_of : (bytes piece : List ℕ) (row : Row) (rows : List Row) → rows_of bytes ≡ row ∷ rows → row.whole ≡ true → FirstLine bytes piece row rows
first_of bytes piece row rows e w = let first : IsFirst bytes (row ∷ rows) = subst (IsFirst bytes) e (first_line bytes) in first w piece

-- ---- what is said

abbrev SaysNothing : Said → Type 0
SaysNothing said = said.answer ≡ Ok None

whole_says : (place : ℕ) (row : Row) (rows : List Row) → row.whole ≡ true → said_by false place (row ∷ rows) ≡ said_at (row_says place row) (size_of row) (said_by false (place + size_of row) rows)
whole_says place row rows w = rw w refl

part_says : (place : ℕ) (row : Row) (rows : List Row) → row.whole ≡ false → said_by false place (row ∷ rows) ≡ nothing_said
part_says place row rows f = rw f refl

same_said : (r : Option (Result LratLine LratTextFault)) (size : ℕ) (later other : Said) → (SaysNothing (said_at r size later) → ⊥) → ((SaysNothing later → ⊥) → other ≡ later) → said_at r size other ≡ said_at r size later
same_said r size later other ne h = grind arith

-- what was said to some lines is said whatever follows
said_more : (rows : List Row) (bytes piece : List ℕ) (place : ℕ) → rows_of bytes ≡ rows → (SaysNothing (said_by false place rows) → ⊥) → said_by false place (rows_of (bytes ++ piece)) ≡ said_by false place rows
said_more [] bytes piece place e ne = absurd (ne refl)
said_more (row ∷ rows) bytes piece place e ne =
    ⊎_elim (λ w.
    let f = first_of bytes piece row rows e w in
    let next = place + size_of row in
    let said = whole_says place row rows w in
    ap (said_by false place) f.more ∙ whole_says place row (rows_of (f.rest ++ piece)) w
    ∙ same_said (row_says place row) (size_of row) (said_by false next rows) (said_by false next (rows_of (f.rest ++ piece)))
    (λ n. ne (ap (λ s. s.answer) said ∙ n)) (λ later. said_more rows f.rest piece next (sym f.rows_are) later)
    ∙ sym said)
    (λ p. absurd (ne (ap (λ s. s.answer) (part_says place row rows p))))
    (cases_Bool row.whole)

-- what is said behind so many bytes
abbrev behind_bytes : ℕ → Said → Said
behind_bytes k said = record { answer = said.answer; taken = k + said.taken }

record Passed (bytes piece : List ℕ) (place taken : ℕ) : Type 0 where
  within : taken ≤ length bytes
  same : said_by false place (rows_of (bytes ++ piece)) ≡ behind_bytes taken (said_by false (place + taken) (rows_of (drop taken bytes ++ piece)))

passed_none : (bytes piece : List ℕ) (place : ℕ) → Passed bytes piece place 0
passed_none bytes piece place = grind (arith, common_steps)

passed_at : (r : Option (Result LratLine LratTextFault)) (size : ℕ) (later : Said) → SaysNothing (said_at r size later) → (r ≡ None) × SaysNothing later
passed_at r size later n = grind arith

-- lines that say nothing may be taken off before more bytes come
passed : (rows : List Row) (bytes piece : List ℕ) (place : ℕ) → rows_of bytes ≡ rows → SaysNothing (said_by false place rows) → Passed bytes piece place (said_by false place rows).taken
passed [] bytes piece place e n = passed_none bytes piece place
passed (row ∷ rows) bytes piece place e n =
    grind (arith, first_of bytes piece row rows e, whole_says place row rows, passed_at (row_says place row), passed rows, drop-drop, length-drop, part_says place row rows, passed_none bytes piece place)

-- ---- readers

said_free : (r : ReaderValue) → r.fault ≡ None → r.finished ≡ false → said_to r ≡ said_by false r.place (rows_of r.rest)
said_free r e unfinished = grind arith

pub said_fault : (r : ReaderValue) (fault : LratTextFault) → r.fault ≡ Some fault → said_to r ≡ record { answer = Err fault; taken = 0 }
said_fault r fault e = rw (e, said_to) refl

pub said_whatever_follows : (r : ReaderValue) (piece : List ℕ) → r.finished ≡ false → ((said_to r).answer ≡ Ok None → ⊥) → said_to (fed r piece) ≡ said_to r
said_whatever_follows r piece unfinished ne = grind (arith, said_fault, said_free, said_more (rows_of r.rest) r.rest piece r.place)

pub nothing_is_lost : (r : ReaderValue) (piece : List ℕ) → r.finished ≡ false → (said_to r).answer ≡ Ok None
    → ((said_to (fed (after_next r) piece)).answer ≡ (said_to (fed r piece)).answer) × (after_next (fed (after_next r) piece) ≡ after_next (fed r piece))
nothing_is_lost r piece unfinished n = go r.fault refl
  where
    go : (fault : Option LratTextFault) → r.fault ≡ fault → ((said_to (fed (after_next r) piece)).answer ≡ (said_to (fed r piece)).answer) × (after_next (fed (after_next r) piece) ≡ after_next (fed r piece))
    go (Some fault) e = let bad : Err fault ≡ Ok None = sym (ap (λ s. s.answer) (said_fault r fault e)) ∙ n in absurd (cc)
    go None e =
        let said = said_free r e unfinished in
        let k = (said_to r).taken in
        let now = said_by false (r.place + k) (rows_of (drop k r.rest ++ piece)) in
        let p : Passed r.rest piece r.place k = subst (Passed r.rest piece r.place) (sym (ap (λ s. s.taken) said)) (passed (rows_of r.rest) r.rest piece r.place refl (sym (ap (λ s. s.answer) said) ∙ n)) in
        let free : (after_next r).fault ≡ None = ap fault_of n in
        let in_two : said_to (fed (after_next r) piece) ≡ now = said_free (fed (after_next r) piece) free unfinished in
        let at_once : said_to (fed r piece) ≡ behind_bytes k now = said_free (fed r piece) e unfinished ∙ p.same in
        let make : List ℕ → ℕ → ReaderValue = λ rest place. record { rest = rest; place = place; finished = r.finished; fault = fault_of now.answer } in
        let rests : drop now.taken (drop k r.rest ++ piece) ≡ drop (k + now.taken) (r.rest ++ piece) =
        ap (drop now.taken) (sym (drop-append-le k r.rest piece p.within)) ∙ drop-drop now.taken k (r.rest ++ piece) in
        let places : r.place + k + now.taken ≡ r.place + (k + now.taken) = omega arith in (
          ap (λ s. s.answer) in_two ∙ sym (ap (λ s. s.answer) at_once),
          ap (with_taken (fed (after_next r) piece)) in_two ∙ ap (λ rest. make rest (r.place + k + now.taken)) rests ∙ ap (make (drop (k + now.taken) (r.rest ++ piece))) places ∙ sym (ap (with_taken (fed r piece)) at_once),
        )
