-- What is left of a text where no line is said.
use Rattle.std.proofs.lemmas.{Bool.{cases_Bool, eqb-false, ne_eqb}, List.{drop-drop, drop_at, length-append}}
use Rattle.std.proofs.Common.{◌≡◌, ◌≢◌, ℕ, ◌+◌, Bool, true, false, cond, List, [], ◌∷◌, ◌++◌, length, drop, Option, Some, None, Result, Ok, Err, refl, sym, ap, ◌∙◌, subst, ⊎_elim, arith, ◌==◌, ◌||◌, if◌then◌else◌}
use Rattle.std.{proofs.lemmas.List.Elements.{All-nil, All-cons, All-weaker}, specs.List.{All, flat_map}}
use Rattle.text_lines.{specs.Text.{Row, onto_row, rows_of, row_text}, proofs.Rows.{rows_back, rows_last}}
use Rattle.cnf_formula.specs.declared.line.LratLine.{LratLine}
use Rattle.lrat_text.{specs.{declared.fault.LratTextFault.LratTextFault, Reading.{row_says, size_of, Said, nothing_said, said_at, said_by, ReaderValue, said_to, fault_of, after_next}}, proofs.Cutting.said_fault}

-- no line feed is among them
abbrev AreClear : List ℕ → Type 0
AreClear bytes = All (λ b. b ≢ 10) bytes

-- the lines from the first on that is not to be read yet
abbrev left_of : Bool → List Row → List Row
left_of finished [] = []
left_of finished (row ∷ rows) = if row.whole || finished then left_of finished rows else row ∷ rows

-- ---- what is left behind lines that say nothing

row_size : (row : Row) → length (row_text row) ≡ size_of row
row_size row = grind (arith, length-append)

at_nothing : (r : Option (Result LratLine LratTextFault)) (size : ℕ) (later : Said) → (said_at r size later).answer ≡ Ok None → (later.answer ≡ Ok None) × ((said_at r size later).taken ≡ size + later.taken)
at_nothing r size later n = grind arith

left_behind : (finished : Bool) (place : ℕ) (rows : List Row) → (said_by finished place rows).answer ≡ Ok None → drop (said_by finished place rows).taken (flat_map row_text rows) ≡ flat_map row_text (left_of finished rows)
left_behind finished place [] n = refl
left_behind finished place (row ∷ rows) n = go (left_behind finished (place + size_of row) rows) (row.whole || finished) n
  where
    later : Said
    later = said_by finished (place + size_of row) rows

    here : Said
    here = said_at (row_says place row) (size_of row) later

    text : List Row → List ℕ
    text rs = flat_map row_text rs

    go : (later.answer ≡ Ok None → drop later.taken (text rows) ≡ text (left_of finished rows)) → (b : Bool) → (cond b here nothing_said).answer ≡ Ok None
        → drop (cond b here nothing_said).taken (text (row ∷ rows)) ≡ text (cond b (left_of finished rows) (row ∷ rows))
    go rest true m =
        let (nothing, taken) = at_nothing (row_says place row) (size_of row) later m in
        ap (λ k. drop k (text (row ∷ rows))) taken ∙ sym (drop-drop later.taken (size_of row) (text (row ∷ rows)))
        ∙ ap (drop later.taken) (drop_at (row_text row) (text rows) (size_of row) (row_size row)) ∙ rest nothing
    go rest false m = refl

-- ---- nothing once the text is finished, and else no line feed

none_left : (rows : List Row) → left_of true rows ≡ []
none_left [] = refl
none_left (row ∷ rows) = grind (arith, none_left rows)

-- one more byte in front
module _ (b : ℕ) (ne : b ≢ 10) where
  onto_clear : (bytes : List ℕ) (whole : Bool) (rows : List Row) → AreClear (flat_map row_text (left_of false (record { bytes = bytes; whole = whole } ∷ rows)))
      → AreClear (flat_map row_text (left_of false (record { bytes = b ∷ bytes; whole = whole } ∷ rows)))
  onto_clear bytes true rows clear = clear
  onto_clear bytes false rows clear = All-cons (λ c. c ≢ 10) b (bytes ++ flat_map row_text rows) ne clear

  onto_rows : (rows : List Row) → AreClear (flat_map row_text (left_of false rows)) → AreClear (flat_map row_text (left_of false (onto_row b rows)))
  onto_rows rows clear = grind (arith, All-cons, All-nil, onto_clear)

clear_left : (bytes : List ℕ) → AreClear (flat_map row_text (left_of false (rows_of bytes)))
clear_left [] = All-nil (λ b. b ≢ 10)
clear_left (b ∷ bytes) = ⊎_elim (λ e. rw e (clear_left bytes)) (λ e. rw e (onto_rows b (eqb-false b 10 e) (rows_of bytes) (clear_left bytes))) (cases_Bool (b == 10))

-- ---- readers

pub kept_fault : (r : ReaderValue) (fault : LratTextFault) → (said_to r).answer ≡ Err fault → (after_next r).fault ≡ Some fault
kept_fault r fault e = ap fault_of e

said_free : (r : ReaderValue) → (said_to r).answer ≡ Ok None → said_to r ≡ said_by r.finished r.place (rows_of r.rest)
said_free r n = grind (arith, said_fault)

rest_is : (r : ReaderValue) (finished : Bool) → r.finished ≡ finished → (said_to r).answer ≡ Ok None → (after_next r).rest ≡ flat_map row_text (left_of finished (rows_of r.rest))
rest_is r finished f n =
    let rows = rows_of r.rest in
    let said = said_free r n in
    ap (λ s. drop s.taken r.rest) said ∙ ap (drop (said_by r.finished r.place rows).taken) (sym (rows_back r.rest))
    ∙ left_behind r.finished r.place rows (sym (ap (λ s. s.answer) said) ∙ n) ∙ ap (λ b. flat_map row_text (left_of b rows)) f

pub left_unfinished : (r : ReaderValue) → r.finished ≡ false → (said_to r).answer ≡ Ok None → All (λ b. b ≢ 10) (after_next r).rest
left_unfinished r unfinished n = subst AreClear (sym (rest_is r false unfinished n)) (clear_left r.rest)

pub left_finished : (r : ReaderValue) → r.finished ≡ true → (said_to r).answer ≡ Ok None → (after_next r).rest ≡ []
left_finished r finished n = rest_is r true finished n ∙ ap (flat_map row_text) (none_left (rows_of r.rest))

part_says : (place : ℕ) (bytes : List ℕ) → AreClear bytes → said_by false place (rows_of bytes) ≡ nothing_said
part_says place [] clear = refl
part_says place (b ∷ bytes) clear = ap (said_by false place) (rows_last b bytes (All-weaker (λ c. c ≢ 10) (λ c. (c == 10) ≡ false) (λ c ne. ne_eqb c 10 ne) (b ∷ bytes) clear))

pub nothing_in_clear : (r : ReaderValue) → r.fault ≡ None → r.finished ≡ false → All (λ b. b ≢ 10) r.rest → said_to r ≡ nothing_said
nothing_in_clear r free unfinished clear = grind (arith, part_says r.place r.rest clear)
