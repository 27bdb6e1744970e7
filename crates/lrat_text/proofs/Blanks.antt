-- The tokens of bytes, by the spaces and tabs at their front.
use Rattle.std.{proofs.lemmas.{Grind.common_steps, List.{length-drop, length-take, get_or-take, get_or-drop, take_rest, Folds.drop_split}}, specs.List.All}
use Rattle.std.proofs.Common.{◌≡◌, ℕ, ◌+◌, ◌-◌, ◌<◌, ◌≤◌, Bool, true, false, List, ◌∷◌, ◌++◌, length, get_or, drop, slice_range, ◌≢◌, sym, ap, ◌∙◌, arith, ◌==◌, ◌||◌, nat_lt, filter}
use Rattle.std.proofs.lemmas.List.{Elements.All-from_get_or, Splits.{slice_split_at, slice_split_none, slice_split-cons_yes}}
use Rattle.lrat_text.specs.Tokens.{Token, tokens_from}

abbrev pub is_blank : ℕ → Bool
is_blank b = b == 32 || b == 9

abbrev pub token : ℕ → List ℕ → Token
token place bytes = record { place = place; bytes = bytes }

abbrev filled : List Token → List Token
filled ts = filter (λ t. nat_lt 0 (length t.bytes)) ts

blank_first : (place b : ℕ) (bytes : List ℕ) → is_blank b ≡ true → tokens_from place (b ∷ bytes) ≡ tokens_from (place + 1) bytes
blank_first place b bytes e = grind (arith, slice_split-cons_yes)

abbrev AreApart : List ℕ → Type 0
AreApart word = All (λ b. is_blank b ≡ false) word

-- a word that a blank ends, or nothing
word_first : (place : ℕ) (word rest : List ℕ) → 0 < length word → AreApart word → (0 < length rest → is_blank (get_or rest 0 0) ≡ true) → tokens_from place (word ++ rest) ≡ token place word ∷ tokens_from (place + length word) rest
word_first place word rest some apart ends = grind (arith, common_steps, slice_split_none is_blank word apart, slice_split_at, blank_first)

-- the token between blanks
pub token_between : (bytes : List ℕ) (start end place : ℕ) → start ≤ end → start ≢ end → end ≤ length bytes → tokens_from place bytes ≡ tokens_from (place + start) (drop start bytes)
    → ((k : ℕ) → start ≤ k → k < end → is_blank (get_or bytes k 0) ≡ false) → (end < length bytes → is_blank (get_or bytes end 0) ≡ true)
    → tokens_from place bytes ≡ token (place + start) (slice_range bytes start end) ∷ tokens_from (place + end) (slice_range bytes end (length bytes))
token_between bytes start end place ordered some within front apart ends =
    let word = slice_range bytes start end in
    let size : length word ≡ end - start = omega (arith, length-take (end - start) (drop start bytes), length-drop start bytes) in
    let each : (i : ℕ) → i < length word → is_blank (get_or word i 0) ≡ false = λ i h.
    let low : i < end - start = omega (arith, size) in
    ap is_blank (get_or-take (end - start) (drop start bytes) i 0 low ∙ get_or-drop start bytes i 0) ∙ apart (start + i) (omega arith) (omega arith) in
    let stop : 0 < length (drop end bytes) → is_blank (get_or (drop end bytes) 0 0) ≡ true = λ h.
    let same : end + 0 ≡ end = omega arith in
    ap is_blank (get_or-drop end bytes 0 0 ∙ ap (λ k. get_or bytes k 0) same) ∙ ends (omega (arith, length-drop end bytes)) in
    let at : place + start + length word ≡ place + end = omega (arith, size) in
    front ∙ ap (tokens_from (place + start)) (drop_split bytes start end ordered)
    ∙ word_first (place + start) word (drop end bytes) (omega (arith, size)) (All-from_get_or (λ b. is_blank b ≡ false) word 0 each) stop
    ∙ ap (λ ts. token (place + start) word ∷ ts) (ap (λ p. tokens_from p (drop end bytes)) at ∙ ap (tokens_from (place + end)) (sym (take_rest bytes end)))
