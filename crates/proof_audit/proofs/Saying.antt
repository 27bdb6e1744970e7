-- What a reader says of a text, line by line, whatever pieces it is fed.
use Rattle.std.proofs.{Common.{◌≡◌, ℕ, ◌+◌, Bool, true, false, cond, List, [], ◌∷◌, ◌++◌, length, drop, Option, Some, None, Result, Ok, Err, refl, sym, ap, ◌∙◌, ⊎_elim, arith, ◌==◌, ◌||◌}, lemmas.Bool.{false≢true, cases_Bool}}
use Rattle.std.{proofs.lemmas.List.{drop-drop, drop_all, append-nil}, specs.List.flat_map}
use Rattle.text_lines.{specs.Text.{Row, onto_row, rows_of, row_text}, proofs.Rows.rows_back}
use Rattle.cnf_formula.specs.declared.line.LratLine.{LratLine}
use Rattle.lrat_text.{specs.{declared.fault.LratTextFault.LratTextFault, Reading.{row_says, size_of, Said, nothing_said, said_at, said_by, ReaderValue, said_to, after_next}}, proofs.Cutting.first_of}
use Rattle.candidate_formula.specs.Lines.{in_front, lines_from}
use Rattle.proof_audit.specs.inner.Lines.{left_says, before, lines_pass}

-- ---- the first line

-- a line that is read, and the bytes behind it
record IsNext (bytes more : List ℕ) (row : Row) (rows : List Row) : Type 0 where
  rest : List ℕ
  rows_are : rows ≡ rows_of rest
  all : rows_of (bytes ++ more) ≡ row ∷ rows_of (rest ++ more)
  behind : drop (size_of row) bytes ≡ rest

-- a line that nothing ended is the last
last_row : (bytes : List ℕ) (row : Row) (rows : List Row) → rows_of bytes ≡ row ∷ rows → row.whole ≡ false → rows ≡ []
last_row [] row rows e w = absurd (cc)
last_row (b ∷ bytes) row rows e w = ⊎_elim (λ t. ended (sym (whole_row t) ∙ e)) (λ f. onto (λ r rs h v. last_row bytes r rs h v) (rows_of bytes) refl (sym (more_row f) ∙ e)) (cases_Bool (b == 10))
  where
    whole_row : (b == 10) ≡ true → rows_of (b ∷ bytes) ≡ record { bytes = []; whole = true } ∷ rows_of bytes
    whole_row t = rw t refl

    more_row : (b == 10) ≡ false → rows_of (b ∷ bytes) ≡ onto_row b (rows_of bytes)
    more_row f = rw f refl

    ended : record { bytes = []; whole = true } ∷ rows_of bytes ≡ row ∷ rows → rows ≡ []
    ended h = let bad : true ≡ false = cc in absurd (false≢true (sym bad))

    onto : ((r : Row) (rs : List Row) → rows_of bytes ≡ r ∷ rs → r.whole ≡ false → rs ≡ []) → (rs : List Row) → rows_of bytes ≡ rs → onto_row b rs ≡ row ∷ rows → rows ≡ []
    onto last [] h g = let none : [] ≡ rows = cc in sym none
    onto last (r ∷ rs) h g =
        let same : rs ≡ rows = cc in
        let whole : r.whole ≡ row.whole = cc in
        sym same ∙ last r rs h (whole ∙ w)

last_size : (bytes : List ℕ) (row : Row) → rows_of bytes ≡ row ∷ [] → row.whole ≡ false → size_of row ≡ length bytes
last_size bytes row e w =
    let text : row_text row ++ [] ≡ bytes = sym (ap (flat_map row_text) e) ∙ rows_back bytes in
    let own : row_text row ≡ row.bytes = ap (λ b. cond b (row.bytes ++ 10 ∷ []) row.bytes) w in
    let size : size_of row ≡ length row.bytes + 0 = ap (λ b. length row.bytes + cond {A = ℕ} b 1 0) w in
    let same = ap length (sym own ∙ sym (append-nil (row_text row)) ∙ text) in
    omega (arith, size, same)

next_of : (bytes more : List ℕ) (row : Row) (rows : List Row) (finished : Bool) → rows_of bytes ≡ row ∷ rows → (row.whole || finished) ≡ true → (finished ≡ true → more ≡ []) → IsNext bytes more row rows
next_of bytes more row rows finished e read last = ⊎_elim (λ w. let f = first_of bytes more row rows e w in record { rest = f.rest; rows_are = f.rows_are; all = f.more; behind = f.behind }) part (cases_Bool row.whole)
  where
    part : row.whole ≡ false → IsNext bytes more row rows
    part w =
        let done : finished ≡ true = sym (ap (λ b. b || finished) w) ∙ read in
        let none = last_row bytes row rows e w in
        let alone : rows_of bytes ≡ row ∷ [] = e ∙ ap (λ rs. row ∷ rs) none in
        let empty = last done in
        record {
          rest = [];
          rows_are = none;
          all = ap (λ bs. rows_of (bytes ++ bs)) empty ∙ ap rows_of (append-nil bytes) ∙ alone ∙ sym (ap (λ bs. row ∷ rows_of bs) empty);
          behind = let size = last_size bytes row alone w in drop_all (size_of row) bytes (omega (arith, size));
        }

-- ---- what is said, and what is said later

-- what is left behind what was said
abbrev later : Said → ℕ → List ℕ → List ℕ → Result (List LratLine) LratTextFault
later said place bytes more = lines_from (place + said.taken) (rows_of (drop said.taken bytes ++ more))

nothing_before : (bytes more : List ℕ) (place : ℕ) → lines_from place (rows_of (bytes ++ more)) ≡ before (Ok None) (later nothing_said place bytes more)
nothing_before bytes more place = let here : place ≡ place + 0 = omega arith in ap (λ p. lines_from p (rows_of (bytes ++ more))) here

said_before : (finished : Bool) (rows : List Row) (bytes more : List ℕ) (place : ℕ) → rows_of bytes ≡ rows → (finished ≡ true → more ≡ [])
    → lines_from place (rows_of (bytes ++ more)) ≡ before (said_by finished place rows).answer (later (said_by finished place rows) place bytes more)
said_before finished [] bytes more place e last = nothing_before bytes more place
said_before finished (row ∷ rows) bytes more place e last =
    ⊎_elim (λ t. rw t (read (λ rest g. said_before finished rows rest more (place + size_of row) g last) (next_of bytes more row rows finished e t last))) (λ f. rw f (nothing_before bytes more place)) (cases_Bool (row.whole || finished))
  where
    size : ℕ
    size = size_of row

    next : Said
    next = said_by finished (place + size) rows

    Rest : Type 0
    Rest = (rest : List ℕ) → rows_of rest ≡ rows → lines_from (place + size) (rows_of (rest ++ more)) ≡ before next.answer (later next (place + size) rest more)

    read : Rest → IsNext bytes more row rows → lines_from place (rows_of (bytes ++ more)) ≡ before (said_at (row_says place row) size next).answer (later (said_at (row_says place row) size next) place bytes more)
    read behind n = ap (lines_from place) n.all ∙ go (row_says place row)
      where
        go : (r : Option (Result LratLine LratTextFault)) → in_front r (lines_from (place + size) (rows_of (n.rest ++ more))) ≡ before (said_at r size next).answer (later (said_at r size next) place bytes more)
        go None =
            let k = next.taken in
            let at : place + size + k ≡ place + (size + k) = omega arith in
            let sum : k + size ≡ size + k = omega arith in
            let left : drop k n.rest ≡ drop (size + k) bytes = ap (drop k) (sym n.behind) ∙ drop-drop k size bytes in
            behind n.rest (sym n.rows_are)
            ∙ ap (λ p. before next.answer (lines_from p (rows_of (drop k n.rest ++ more)))) at
            ∙ ap (λ bs. before next.answer (lines_from (place + (size + k)) (rows_of (bs ++ more)))) left
        go (Some (Ok line)) = ap (λ bs. before (Ok (Some line)) (lines_from (place + size) (rows_of (bs ++ more)))) (sym n.behind)
        go (Some (Err fault)) = refl

-- ---- readers

-- before more bytes come, or where none do, a reader says the first of what is left
pub taken_line : (r : ReaderValue) (more : List ℕ) → r.fault ≡ None → (r.finished ≡ true → more ≡ []) → left_says r more ≡ before (said_to r).answer (left_says (after_next r) more)
taken_line r more calm last =
    let said : said_to r ≡ said_by r.finished r.place (rows_of r.rest) = rw (calm, said_to) refl in
    said_before r.finished (rows_of r.rest) r.rest more r.place refl last ∙ ap (λ s. before s.answer (later s r.place r.rest more)) (sym said)

-- ---- tests of lines

pub passes_line : (test next : List LratLine → Bool) (line : LratLine) (rest : Result (List LratLine) LratTextFault) → ((more : List LratLine) → test (line ∷ more) ≡ next more) → lines_pass test (before (Ok (Some line)) rest) ≡ lines_pass next rest
passes_line test next line (Ok lines) h = h lines
passes_line test next line (Err fault) h = refl

pub fails_line : (test : List LratLine → Bool) (line : LratLine) (rest : Result (List LratLine) LratTextFault) → ((more : List LratLine) → test (line ∷ more) ≡ false) → lines_pass test (before (Ok (Some line)) rest) ≡ false
fails_line test line (Ok lines) h = h lines
fails_line test line (Err fault) h = refl

-- ---- one call of a reader

pub said_one : (test : List LratLine → Bool) (r new : ReaderValue) (answer : Result (Option LratLine) LratTextFault) (more : List ℕ) → r.fault ≡ None → (r.finished ≡ true → more ≡ []) → answer ≡ (said_to r).answer → new ≡ after_next r
    → lines_pass test (left_says r more) ≡ lines_pass test (before answer (left_says new more))
said_one test r new answer more calm last said moved =
    ap (lines_pass test) (taken_line r more calm last ∙ ap (λ a. before a (left_says (after_next r) more)) (sym said) ∙ ap (λ s. before answer (left_says s more)) (sym moved))
