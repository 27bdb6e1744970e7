-- Lines of a report that are spelled are read.
use Rattle.std.proofs.{Common.{◌≡◌, ℕ, not, List, ◌∷◌, Some, Result, Ok, ap, ◌∙◌}, lemmas.Slice.Eq.bytes_eq-Decides}
use Rattle.text_lines.{specs.{Text.{Row, Place}, Check.{refuse, line_part}}, proofs.{ReadBack.{Reads, line_again}, Repeated.place, Rows.{AreTokens, row_of, words_again}}}
use Rattle.topology_text.specs.declared.fault.TopologyCode.{TopologyCode}
use Rattle.report_form.{specs.{declared.fault.ReportCode.{ReportCode, TheVariants.BadLine}, Lines.{fixed_line, among}}, proofs.LineTaken.on_words}

-- a line whose tokens pass
pub on_words_again : {A : Type 0} (check : List (List ℕ) → Result A ReportCode) (words : List (List ℕ)) (x : A) → AreTokens words → check words ≡ Ok x → on_words check (Some (row_of words)) ≡ Ok x
on_words_again check words x tokens e = ap check (words_again words tokens) ∙ e

pub words_part_again : {A : Type 0} (check : List (List ℕ) → Result A ReportCode) (words : List (List ℕ)) (x : A) (n : ℕ) (rows : List Row) → AreTokens words → check words ≡ Ok x → Reads (line_part (on_words check) (place n (row_of words ∷ rows))) x rows
words_part_again check words x n rows tokens e = line_again (on_words check) (row_of words) x n rows (on_words_again check words x tokens e)

pub fixed_part_again : (bytes : List ℕ) (words : List (List ℕ)) (n : ℕ) (rows : List Row) → (row_of words).bytes ≡ bytes → Reads (line_part (fixed_line bytes) (place n (row_of words ∷ rows))) tt rows
fixed_part_again bytes words n rows same = line_again (fixed_line bytes) (row_of words) tt n rows (ap (λ t. refuse (not t) BadLine) ((bytes_eq-Decides (row_of words).bytes bytes).1 same))

-- a part of the topology that is read, whatever the rows among which a fault would be looked for
pub reads_among : {A : Type 0} {x : A} {rest : List Row} (rows : List Row) (r : Result (A × Place) (TopologyCode × ℕ)) → Reads r x rest → Reads (among rows r) x rest
reads_among rows r one = record { number = one.number; is = ap (among rows) one.is }
