-- The text of short lines is short.
use Rattle.std.proofs.{Common.{◌≡◌, ℕ, ◌+◌, ◌*◌, ◌^◌, ◌<◌, ◌≤◌, List, [], ◌∷◌, ◌++◌, length, map, sym, ap, ◌∙◌, ⊎_elim, arith, lit<, length-append, append_assoc, All, ℤ, pos, negsuc, decimal}, lemmas.Bool.cases_Bool}
use Rattle.std.proofs.lemmas.{Fmt.length-decimal-le, List.Elements.{All-head, All-tail}}
use Rattle.text_lines.specs.Text.{line}
use Rattle.cnf_formula.specs.{Literals.{LitValue, IsLit}, Lines.ProofLineValue, declared.line.LratLine.TheVariants.Addition}
use Rattle.lrat_text.{specs.Printing.{literal_word, hint_word, trailed, closed, line_words, lrat_text, IsHint, IsReadable}, proofs.Trailed.{trailed-append, line_closed}}
use Rattle.candidate_formula.specs.{Files.longest_proof, Logs.{IsShortLine, most_lines}}

-- ---- words

id_short : (n : ℕ) → n ≤ 4294967295 → length (decimal n) ≤ 10
id_short n small =
    let ten : 4294967295 < 10 ^ 10 = lit< tt in
    let wide : 4294967295 < 2 ^ 64 = lit< tt in
    length-decimal-le 10 n (omega arith) (omega (arith, ten, small)) (omega (arith, wide, small))

literal_short : (l : LitValue) → IsLit l → length (literal_word l) ≤ 11
literal_short l is = grind (arith, id_short, ⊎_elim, cases_Bool)

hint_short : (h : ℤ) → IsHint h → length (hint_word h) ≤ 11
hint_short (pos n) is = let digits = id_short n is.small in omega (arith, digits)
hint_short (negsuc n) is = let digits = id_short (n + 1) is.small in omega (arith, digits)

-- words of at most 11 bytes, with a space behind each
words_short : {X : Type 0} (word : X → List ℕ) (P : X → Type 0) → ((x : X) → P x → length (word x) ≤ 11) → (xs : List X) → All P xs → length (trailed (map word xs)) ≤ 12 * length xs
words_short word P each [] all = omega arith
words_short word P each (x ∷ xs) all = grind (arith, each x (All-head P x xs all), length-append, words_short word P each xs (All-tail P x xs all))

-- ---- lines

-- the text of an addition, word by word
line_length : (id : List ℕ) (lits hints : List (List ℕ)) → length (line (id ∷ closed lits ++ closed hints)) ≡ length id + length (trailed lits) + length (trailed hints) + 5
line_length id lits hints =
    let whole : line (id ∷ closed lits ++ closed hints) ≡ trailed (id ∷ closed lits ++ hints) ++ 48 ∷ 10 ∷ [] =
    ap line (sym (append_assoc (id ∷ closed lits) hints ((48 ∷ []) ∷ []))) ∙ line_closed (id ∷ closed lits ++ hints) in
    let parts : trailed (id ∷ closed lits ++ hints) ≡ (id ++ 32 ∷ [] ++ (trailed lits ++ 48 ∷ 32 ∷ [])) ++ trailed hints =
    trailed-append (id ∷ closed lits) hints ∙ ap (λ z. (id ++ 32 ∷ [] ++ z) ++ trailed hints) (trailed-append lits ((48 ∷ []) ∷ [])) in
    rw (whole, parts) (simp (length-append, length) (omega arith))

line_short : (l : ProofLineValue) → IsReadable (Addition l) → IsShortLine l → length (line (line_words (Addition l))) ≤ 50331675
line_short l r short = grind (arith, id_short l.id r.0.small, words_short literal_word IsLit literal_short l.lits r.1, words_short hint_word IsHint hint_short l.hints r.2, short.lits, short.hints, line_length)

text_short : (lines : List ProofLineValue) → All IsReadable (map Addition lines) → All IsShortLine lines → length (lrat_text (map Addition lines)) ≤ length lines * 50331675
text_short [] readable short = omega arith
text_short (l ∷ lines) readable short =
    let first = line_short l (All-head IsReadable (Addition l) (map Addition lines) readable) (All-head IsShortLine l lines short) in
    let rest = text_short lines (All-tail IsReadable (Addition l) (map Addition lines) readable) (All-tail IsShortLine l lines short) in
    omega (arith, length-append (line (line_words (Addition l))) (lrat_text (map Addition lines)), first, rest)

pub log_short : (lines : List ProofLineValue) → All IsReadable (map Addition lines) → All IsShortLine lines → length lines ≤ most_lines → length (lrat_text (map Addition lines)) ≤ longest_proof
log_short lines readable short few = let all = text_short lines readable short in omega (arith, all, few)
