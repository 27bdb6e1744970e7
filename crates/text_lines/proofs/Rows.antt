-- How a text falls into lines, and a line into tokens, and how they give the text back.
use Rattle.std.proofs.{Common.{◌≡◌, ◌≢◌, ℕ, ◌+◌, ◌-◌, ◌<◌, ◌≤◌, Bool, true, false, eqb, List, [], ◌∷◌, ◌++◌, map, length, get_or, drop, slice_range, refl, sym, ap, ◌∙◌, arith}, lemmas.Bool.{ne_eqb, eq-eqb, eqb-true}}
use Rattle.std.proofs.lemmas.List.{Folds.drop_split, append_assoc, length-take, length-drop, drop_all, drop_more, take_rest, Elements.{All-nil, All-cons, All-head, All-tail, All-append, All-weaker}}
use Rattle.std.{proofs.lemmas.List.Splits.{slice_split_none, slice_split_at, join_with_byte-slice_split}, specs.List.{All, AllByRecursion, flat_map, join_with_byte, slice_split}}
use Rattle.text_lines.{specs.Text.{Row, onto_row, rows_of, row_text, StartsLine, words_of, StartsToken, line, text_of}, proofs.Cut.{IsApart, no_separator, cut_at}}

abbrev pub row : List ℕ → Bool → Row
row bytes whole = record { bytes = bytes; whole = whole }

-- ---- lines

pub rows_cut : (xs ys : List ℕ) → IsApart 10 xs → rows_of (xs ++ 10 ∷ ys) ≡ row xs true ∷ rows_of ys
rows_cut [] ys apart = refl
rows_cut (x ∷ xs) ys apart =
    let first = All-head (λ b. eqb b 10 ≡ false) x xs apart in
    let rest = rows_cut xs ys (All-tail (λ b. eqb b 10 ≡ false) x xs apart) in
    rw (first, rest)

pub rows_last : (x : ℕ) (xs : List ℕ) → IsApart 10 (x ∷ xs) → rows_of (x ∷ xs) ≡ row (x ∷ xs) false ∷ []
rows_last x [] apart = rw (All-head (λ b. eqb b 10 ≡ false) x [] apart)
rows_last x (y ∷ ys) apart =
    let first = All-head (λ b. eqb b 10 ≡ false) x (y ∷ ys) apart in
    let rest = rows_last y ys (All-tail (λ b. eqb b 10 ≡ false) x (y ∷ ys) apart) in
    rw (first, rest)

one_row : (xs : List ℕ) → 0 < length xs → IsApart 10 xs → rows_of xs ≡ row xs false ∷ []
one_row [] some apart = absurd (omega arith)
one_row (x ∷ xs) some apart = rows_last x xs apart

onto_text : (b : ℕ) (rows : List Row) → flat_map row_text (onto_row b rows) ≡ b ∷ flat_map row_text rows
onto_text b [] = refl
onto_text b (r ∷ rs) = grind arith

byte_back : (b : ℕ) (bs : List ℕ) → flat_map row_text (rows_of bs) ≡ bs → flat_map row_text (rows_of (b ∷ bs)) ≡ b ∷ bs
byte_back b bs rest = grind (arith, eqb-true, onto_text)

pub rows_back : (text : List ℕ) → flat_map row_text (rows_of text) ≡ text
rows_back [] = refl
rows_back (b ∷ bs) = byte_back b bs (rows_back bs)

-- a line starts where the lines before it end
pub rows_left : (text : List ℕ) (at : ℕ) → at ≤ length text → StartsLine text (rows_of (drop at text)) at
rows_left text at within = omega (arith, ap length (rows_back (drop at text)), length-drop at text)

pub rows_step : (text : List ℕ) (from at : ℕ) → from ≤ at → at < length text → ((k : ℕ) → from ≤ k → k < at → get_or text k 0 ≢ 10) → get_or text at 0 ≡ 10 → rows_of (drop from text) ≡ row (slice_range text from at) true ∷ rows_of (drop (at + 1) text)
rows_step text from at ordered within apart here =
    let byte : drop at text ≡ 10 ∷ drop (at + 1) text = drop_more text at 0 within ∙ ap (λ b. b ∷ drop (at + 1) text) here in
    ap rows_of (drop_split text from at ordered ∙ ap (λ t. slice_range text from at ++ t) byte)
    ∙ rows_cut (slice_range text from at) (drop (at + 1) text) (no_separator text from at 10 ordered (omega arith) apart)

pub rows_end : (text : List ℕ) (from : ℕ) → from < length text → ((k : ℕ) → from ≤ k → k < length text → get_or text k 0 ≢ 10) → rows_of (drop from text) ≡ row (slice_range text from (length text)) false ∷ rows_of (drop (length text) text)
rows_end text from within apart = grind (arith, slice_range, take_rest, length-drop, one_row, no_separator, drop_all)

pub rows_end_at : (text : List ℕ) (from at : ℕ) → at ≤ length text → length text ≤ at → from ≤ at → from ≢ length text → ((k : ℕ) → from ≤ k → k < at → get_or text k 0 ≢ 10) → rows_of (drop from text) ≡ row (slice_range text from at) false ∷ rows_of (drop at text)
rows_end_at text from at within end ordered some apart = grind (arith, slice_range, rows_end)

-- ---- the pieces between separators

pub parts_step : (separator : ℕ) (text : List ℕ) (from at to : ℕ) → from ≤ at → at < to → to ≤ length text → ((k : ℕ) → from ≤ k → k < at → get_or text k 0 ≢ separator) → get_or text at 0 ≡ separator → slice_split (λ b. eqb b separator) (slice_range text from to) ≡ slice_range text from at ∷ slice_split (λ b. eqb b separator) (slice_range text (at + 1) to)
parts_step separator text from at to ordered before within apart here =
    ap (slice_split (λ b. eqb b separator)) (cut_at text from at to separator ordered before within here)
    ∙ slice_split_at (λ b. eqb b separator) (slice_range text from at) separator (slice_range text (at + 1) to) (no_separator text from at separator ordered (omega arith) apart) (eq-eqb separator separator refl)

pub parts_end_at : (separator : ℕ) (text : List ℕ) (from at to : ℕ) → from ≤ at → at ≤ to → to ≤ at → to ≤ length text → ((k : ℕ) → from ≤ k → k < at → get_or text k 0 ≢ separator) → slice_split (λ b. eqb b separator) (slice_range text from to) ≡ slice_range text from at ∷ []
parts_end_at separator text from at to ordered before end within apart = grind (arith, slice_range, slice_split_none, no_separator)

-- the same at a space
pub words_step : (text : List ℕ) (from at to : ℕ) → from ≤ at → at < to → to ≤ length text → ((k : ℕ) → from ≤ k → k < at → get_or text k 0 ≢ 32) → get_or text at 0 ≡ 32 → words_of (slice_range text from to) ≡ slice_range text from at ∷ words_of (slice_range text (at + 1) to)
words_step text from at to ordered before within apart here = parts_step 32 text from at to ordered before within apart here

pub words_end_at : (text : List ℕ) (from at to : ℕ) → from ≤ at → at ≤ to → to ≤ at → to ≤ length text → ((k : ℕ) → from ≤ k → k < at → get_or text k 0 ≢ 32) → words_of (slice_range text from to) ≡ slice_range text from at ∷ []
words_end_at text from at to ordered before end within apart = parts_end_at 32 text from at to ordered before end within apart

-- a token starts where the tokens before it end
pub words_left : (text : List ℕ) (at end : ℕ) → at ≤ end → end ≤ length text → StartsToken end (words_of (slice_range text at end)) at
words_left text at end ordered within =
    omega (arith, ap length (join_with_byte-slice_split 32 (slice_range text at end)), length-take (end - at) (drop at text), length-drop at text)

-- ---- from lines to their text and back

-- bytes above the space
abbrev pub IsToken : List ℕ → Type 0
IsToken word = All (λ b. 32 < b) word

-- the tokens of a line
abbrev pub AreTokens : List (List ℕ) → Type 0
AreTokens words = (0 < length words) × AllByRecursion IsToken words

-- the line of these tokens
abbrev pub row_of : List (List ℕ) → Row
row_of words = row (join_with_byte 32 words) true

token_apart : (separator : ℕ) (word : List ℕ) → separator ≤ 32 → IsToken word → IsApart separator word
token_apart separator word low token = All-weaker (λ b. 32 < b) (λ b. eqb b separator ≡ false) (λ b h. ne_eqb b separator (λ e. omega arith)) word token

pub words_again : (words : List (List ℕ)) → AreTokens words → words_of (join_with_byte 32 words) ≡ words
words_again [] tokens = absurd (omega arith)
words_again (word ∷ []) tokens = slice_split_none (λ b. eqb b 32) word (token_apart 32 word (omega arith) tokens.1.0)
words_again (word ∷ next ∷ words) tokens =
    slice_split_at (λ b. eqb b 32) word 32 (join_with_byte 32 (next ∷ words)) (token_apart 32 word (omega arith) tokens.1.0) refl
    ∙ ap (λ ws. word ∷ ws) (words_again (next ∷ words) (omega arith, tokens.1.1))

line_apart : (words : List (List ℕ)) → AllByRecursion IsToken words → IsApart 10 (join_with_byte 32 words)
line_apart [] tokens = All-nil (λ b. eqb b 10 ≡ false)
line_apart (word ∷ []) tokens = token_apart 10 word (omega arith) tokens.0
line_apart (word ∷ next ∷ words) tokens =
    All-append (λ b. eqb b 10 ≡ false) word (32 ∷ join_with_byte 32 (next ∷ words)) (token_apart 10 word (omega arith) tokens.0)
    (All-cons (λ b. eqb b 10 ≡ false) 32 (join_with_byte 32 (next ∷ words)) refl (line_apart (next ∷ words) tokens.1))

pub rows_again : (lines : List (List (List ℕ))) → AllByRecursion AreTokens lines → rows_of (text_of lines) ≡ map row_of lines
rows_again [] tokens = refl
rows_again (words ∷ lines) tokens =
    ap rows_of (append_assoc (join_with_byte 32 words) (10 ∷ []) (text_of lines))
    ∙ rows_cut (join_with_byte 32 words) (text_of lines) (line_apart words tokens.0.1)
    ∙ ap (λ rows. row_of words ∷ rows) (rows_again lines tokens.1)

pub row_back : (r : Row) (words : List (List ℕ)) → r.whole ≡ true → words_of r.bytes ≡ words → r ≡ row_of words
row_back r words whole e =
    let bytes : r.bytes ≡ join_with_byte 32 words = sym (join_with_byte-slice_split 32 r.bytes) ∙ ap (join_with_byte 32) e in
    λ i. record { bytes = bytes i; whole = whole i }

lines_text : (lines : List (List (List ℕ))) → flat_map row_text (map row_of lines) ≡ text_of lines
lines_text [] = refl
lines_text (words ∷ lines) = ap (λ t. line words ++ t) (lines_text lines)

pub text_back : (text : List ℕ) (lines : List (List (List ℕ))) → rows_of text ≡ map row_of lines → text ≡ text_of lines
text_back text lines e = sym (rows_back text) ∙ ap (flat_map row_text) e ∙ lines_text lines
