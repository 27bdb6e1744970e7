-- The text of proof lines says those lines.
use Rattle.std.{proofs.{Common.{◌≡◌, ℕ, ◌+◌, List, [], ◌∷◌, Some, Ok, refl, ap, ◌∙◌, All}, lemmas.List.Elements.{All-head, All-tail}}, specs.List.join_with_byte}
use Rattle.text_lines.specs.Text.{rows_of}
use Rattle.cnf_formula.specs.declared.line.LratLine.{LratLine}
use Rattle.lrat_text.{specs.{Printing.{line_words, lrat_text, IsReadable}, Reading.size_of}, proofs.Printed.{whole, row_of_line, row_says_line}}
use Rattle.candidate_formula.specs.Lines.{in_front, lines_from, lines_of_text}

says_lines : (lines : List LratLine) (place : ℕ) → All IsReadable lines → lines_from place (rows_of (lrat_text lines)) ≡ Ok lines
says_lines [] place all = refl
says_lines (l ∷ lines) place all =
    let readable = All-head IsReadable l lines all in
    let row = whole (join_with_byte 32 (line_words l)) in
    ap (lines_from place) (row_of_line l (lrat_text lines) readable)
    ∙ ap (λ said. in_front said (lines_from (place + size_of row) (rows_of (lrat_text lines)))) (row_says_line l place readable)
    ∙ ap (in_front (Some (Ok l))) (says_lines lines (place + size_of row) (All-tail IsReadable l lines all))

pub text_says : (lines : List LratLine) → All IsReadable lines → lines_of_text (lrat_text lines) ≡ Ok lines
text_says lines all = says_lines lines 0 all
