-- The words that lines are made of.
use Rattle.std.proofs.{Common.{◌≡◌, ℕ, ◌^◌, ◌<◌, Bool, true, false, ◌&&◌, not, eqb, List, [], ◌∷◌, ◌++◌, length, get_or, drop, refl, sym, ap, ◌∙◌, arith, decimal, nat_eq, nat_lt}, lemmas.Bool.Decides.Decides-eqb}
use Rattle.std.proofs.lemmas.{Bool.{and_parts, ltb-true, ne_eqb, or_from, not-true}, Fmt.{decimal_is_IsNumeral, decimal_nonempty}, List.{Splits.slice_split_at, append-nil, append_assoc, Elements.{All-append, All-weaker, All-from_get_or}}}
use Rattle.std.{proofs.lemmas.{List.Sums.AllPass-from_list_all, Slice.Eq.starts_is, Str.Parse.digit_at}, specs.List.{AllByRecursion, flat_map, join_with_byte, list_any, list_all, starts_with}}
use Rattle.text_lines.{specs.Text.words_of, proofs.Rows.{IsToken, AreTokens}}

-- a token that isn't empty
abbrev pub IsWord : List ℕ → Type 0
IsWord word = (0 < length word) × IsToken word

abbrev pub AreWords : List (List ℕ) → Type 0
AreWords words = AllByRecursion IsWord words

abbrev pub is_token : List ℕ → Bool
is_token word = list_all (λ b. nat_lt 32 b) word

-- for a word that is written out, by refl
pub literal : (word : List ℕ) → (nat_lt 0 (length word) && is_token word) ≡ true → IsWord word
literal word e = grind (arith, and_parts, nat_lt, ltb-true, All-weaker, AllPass-from_list_all)

words_are_tokens : (words : List (List ℕ)) → AreWords words → AllByRecursion IsToken words
words_are_tokens [] each = tt
words_are_tokens (word ∷ words) each = (each.0.1, words_are_tokens words each.1)

pub tokens_from : (words : List (List ℕ)) → 0 < length words → AreWords words → AreTokens words
tokens_from words some each = (some, words_are_tokens words each)

pub none_empty : (words : List (List ℕ)) → AreWords words → list_any (λ w. eqb (length w) 0) words ≡ false
none_empty [] each = refl
none_empty (word ∷ words) each = or_from (eqb (length word) 0) (list_any (λ w. eqb (length w) 0) words) (ne_eqb (length word) 0 (λ e. omega arith)) (none_empty words each.1)

-- the first token of a line that begins with a word and a space
pub begins_is : (word bytes : List ℕ) → list_all (λ b. not (eqb b 32)) word ≡ true → starts_with nat_eq bytes (word ++ 32 ∷ []) ≡ true → words_of bytes ≡ word ∷ words_of (drop (length (word ++ 32 ∷ [])) bytes)
begins_is word bytes free begins =
    let rest = drop (length (word ++ 32 ∷ [])) bytes in
    let front : bytes ≡ (word ++ 32 ∷ []) ++ rest = (starts_is Decides-eqb bytes (word ++ 32 ∷ []) (starts_with nat_eq bytes (word ++ 32 ∷ [])) refl).0 begins in
    let apart = All-weaker (λ b. not (eqb b 32) ≡ true) (λ b. eqb b 32 ≡ false) (λ b. not-true (eqb b 32)) word (AllPass-from_list_all (λ b. not (eqb b 32)) word free) in
    ap words_of (front ∙ append_assoc word (32 ∷ []) rest) ∙ slice_split_at (λ b. eqb b 32) word 32 rest apart refl

pub token-append : (a b : List ℕ) → IsToken a → IsToken b → IsToken (a ++ b)
token-append a b first second = All-append (λ c. 32 < c) a b first second

pub decimal_word : (n : ℕ) → n < 2 ^ 64 → IsWord (decimal n)
decimal_word n small =
    let digits = (decimal_is_IsNumeral n small).0.1 in
    let above : (i : ℕ) → i < length (decimal n) → 32 < get_or (decimal n) i 0 = λ i h. omega (arith, digit_at (decimal n) i digits h) in
    (decimal_nonempty n small, All-from_get_or (λ b. 32 < b) (decimal n) 0 above)

-- a line as its first token, and a space before each other
pub join_fields : (word : List ℕ) (words : List (List ℕ)) → join_with_byte 32 (word ∷ words) ≡ word ++ flat_map (λ w. 32 ∷ w) words
join_fields word [] = sym (append-nil word)
join_fields word (next ∷ words) = ap (λ t. word ++ 32 ∷ t) (join_fields next words)
