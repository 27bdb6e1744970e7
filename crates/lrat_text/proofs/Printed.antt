-- The text of a line is read as that line.
use Rattle.std.proofs.Common.{◌≡◌, ℕ, suc, ◌+◌, ◌-◌, ◌^◌, ◌<◌, Bool, true, false, List, [], ◌∷◌, ◌++◌, length, get_or, map, Some, Result, Ok, refl, sym, ap, ◌∙◌, subst, arith, lit<, length-append, append_assoc, append-nil, nat_lt, filter, All, ℤ, decimal, codes}
use Rattle.std.{proofs.lemmas.{Bool.and_parts, List.{Elements.{All-head, All-tail}, Folds.list_all-append}}, specs.List.{list_all, slice_split, join_with_byte}}
use Rattle.text_lines.specs.{Text.{Row, rows_of, line}, Check.◌>>=◌}
use Rattle.cnf_formula.specs.{Literals.{LitValue, IsLit}, Lines.{ProofLineValue, DeletionValue}, declared.line.LratLine.{LratLine, TheVariants.{Addition, Deletion}}}
use Rattle.lrat_text.specs.{declared.fault.LratTextFault.LratTextFault, Printing.{literal_word, hint_word, closed, line_words, IsId, IsHint, IsReadable}, Tokens.{Token, placed_from, tokens_from, content, id_of, literal_of, hint_of}}
use Rattle.lrat_text.{specs.Reading.{up_to_zero, no_more, addition_of, deletion_of, behind_id, line_of, row_says, said_by}, proofs.{Blanks.{is_blank, token}, Spelled.{IsWord, ReadsAs, id_reads, literal_reads, hint_reads, no_comment}}}

abbrev pub whole : List ℕ → Row
whole bytes = record { bytes = bytes; whole = true }

-- ---- a line of words

abbrev AreWords : List (List ℕ) → Type 0
AreWords [] = Unit {0}
AreWords (word ∷ words) = IsWord word × AreWords words

abbrev no_control : List ℕ → Bool
no_control bytes = list_all (λ b. nat_lt 31 b) bytes

above_control : (bytes : List ℕ) → list_all (λ b. nat_lt 32 b) bytes ≡ true → no_control bytes ≡ true
above_control [] h = refl
above_control (b ∷ bytes) h = grind (arith, above_control bytes)

joined_control : (words : List (List ℕ)) → AreWords words → no_control (join_with_byte 32 words) ≡ true
joined_control (word ∷ next ∷ words) a = grind (arith, list_all-append, above_control word a.0.above, joined_control (next ∷ words) a.1)
joined_control words a = grind (arith, above_control)

rows_whole : (bytes more : List ℕ) → no_control bytes ≡ true → rows_of (bytes ++ 10 ∷ more) ≡ whole bytes ∷ rows_of more
rows_whole [] more h = refl
rows_whole (b ∷ bytes) more h = grind (arith, rows_whole bytes more)

byte_above : (bytes : List ℕ) (k : ℕ) → no_control bytes ≡ true → get_or bytes k 0 ≡ 13 → ⊥
byte_above (b ∷ bytes) (suc k) h e = byte_above bytes k (and_parts (nat_lt 31 b) (no_control bytes) h).1 e
byte_above bytes k h e = grind arith

all_content : (bytes : List ℕ) → no_control bytes ≡ true → content (whole bytes) ≡ bytes
all_content bytes h = grind (arith, byte_above bytes (length bytes - 1) h)

-- ---- its tokens

not_blank : (b : ℕ) → nat_lt 32 b ≡ true → is_blank b ≡ false
not_blank b h = grind arith

split_last : (word : List ℕ) → list_all (λ b. nat_lt 32 b) word ≡ true → slice_split is_blank word ≡ word ∷ []
split_last [] h = refl
split_last (b ∷ word) h = grind (arith, not_blank b, split_last word)

split_first : (word more : List ℕ) → list_all (λ b. nat_lt 32 b) word ≡ true → slice_split is_blank (word ++ 32 ∷ more) ≡ word ∷ slice_split is_blank more
split_first [] more h = refl
split_first (b ∷ word) more h = grind (arith, not_blank b, split_first word more)

split_words : (word : List ℕ) (words : List (List ℕ)) → AreWords (word ∷ words) → slice_split is_blank (join_with_byte 32 (word ∷ words)) ≡ word ∷ words
split_words word [] a = split_last word a.0.above
split_words word (next ∷ words) a = split_first word (join_with_byte 32 (next ∷ words)) a.0.above ∙ ap (λ ws. word ∷ ws) (split_words next words a.1)

all_kept : (words : List (List ℕ)) (place : ℕ) → AreWords words → filter (λ t. nat_lt 0 (length t.bytes)) (placed_from place words) ≡ placed_from place words
all_kept [] place a = refl
all_kept (word ∷ words) place a = grind (arith, token place word, all_kept words (place + length word + 1) a.1)

tokens_are : (word : List ℕ) (words : List (List ℕ)) (place : ℕ) → AreWords (word ∷ words) → tokens_from place (join_with_byte 32 (word ∷ words)) ≡ placed_from place (word ∷ words)
tokens_are word words place a = ap (λ ps. filter (λ t. nat_lt 0 (length t.bytes)) (placed_from place ps)) (split_words word words a) ∙ all_kept (word ∷ words) place a

-- ---- what they say

module _ {A : Type 0} (read : Token → Result A LratTextFault) (word_of : A → List ℕ) where
  abbrev EachReads : List A → Type 0
  EachReads [] = Unit {0}
  EachReads (x ∷ xs) = ReadsAs read (word_of x) x × EachReads xs

  closed_words : (xs : List A) (more : List (List ℕ)) → EachReads xs → AreWords more → AreWords (closed (map word_of xs) ++ more)
  closed_words [] more r a = (record { some = omega arith; above = refl }, a)
  closed_words (x ∷ xs) more r a = (r.0.is_a_word, closed_words xs more r.1 a)

  read_closed : (xs : List A) (more : List (List ℕ)) (place : ℕ) (lack : LratTextFault) → EachReads xs
      → (next : ℕ) × (up_to_zero read lack (placed_from place (closed (map word_of xs) ++ more)) ≡ Ok (xs, placed_from next more))
  read_closed [] more place lack r = (place + 1 + 1, refl)
  read_closed (x ∷ xs) more place lack r =
      let after = place + length (word_of x) + 1 in
      let rest = read_closed xs more after lack r.1 in
      let tail = placed_from after (closed (map word_of xs) ++ more) in
      let finish : List A × List Token → Result (List A × List Token) LratTextFault = λ m. Ok (x ∷ m.0, m.1) in
      let step : up_to_zero read lack (token place (word_of x) ∷ tail) ≡ (read (token place (word_of x)) >>= (λ y. up_to_zero read lack tail >>= (λ m. Ok (y ∷ m.0, m.1)))) = rw (r.0.no_zero place) refl in
      (rest.0, step ∙ ap (λ q. q >>= (λ y. up_to_zero read lack tail >>= (λ m. Ok (y ∷ m.0, m.1)))) (r.0.reads place) ∙ ap (λ q. q >>= finish) rest.1)

lits_read : (lits : List LitValue) → All IsLit lits → EachReads literal_of literal_word lits
lits_read [] a = tt
lits_read (l ∷ lits) a = (literal_reads l (All-head IsLit l lits a), lits_read lits (All-tail IsLit l lits a))

hints_read : (hints : List ℤ) → All IsHint hints → EachReads hint_of hint_word hints
hints_read [] a = tt
hints_read (h ∷ hints) a = (hint_reads h (All-head IsHint h hints a), hints_read hints (All-tail IsHint h hints a))

ids_read : (ids : List ℕ) → All IsId ids → EachReads id_of decimal ids
ids_read [] a = tt
ids_read (n ∷ ids) a = (id_reads n (All-head IsId n ids a), ids_read ids (All-tail IsId n ids a))

-- ---- a line

words_are : (line : LratLine) → IsReadable line → AreWords (line_words line)
words_are (Addition line) r = (
  (id_reads line.id r.0).is_a_word,
  closed_words literal_of literal_word line.lits (closed (map hint_word line.hints)) (lits_read line.lits r.1)
      (subst AreWords (append-nil (closed (map hint_word line.hints))) (closed_words hint_of hint_word line.hints [] (hints_read line.hints r.2) tt)),
)
words_are (Deletion deletion) r = (
  (id_reads deletion.id r.0).is_a_word,
  (
    record { some = omega arith; above = refl },
    subst AreWords (append-nil (closed (map decimal deletion.ids))) (closed_words id_of decimal deletion.ids [] (ids_read deletion.ids r.1) tt),
  ),
)

-- the second token of an addition is no `d`
behind_is : (lack : LratTextFault) (id place : ℕ) (lits : List LitValue) (more : List (List ℕ)) → EachReads literal_of literal_word lits
    → behind_id lack id (placed_from place (closed (map literal_word lits) ++ more)) ≡ addition_of lack id (placed_from place (closed (map literal_word lits) ++ more))
behind_is lack id place [] more r = refl
behind_is lack id place (l ∷ lits) more r = rw (r.0.no_d place) refl

addition_read : (lack : LratTextFault) (place : ℕ) (line : ProofLineValue) → All IsLit line.lits → All IsHint line.hints
    → addition_of lack line.id (placed_from place (closed (map literal_word line.lits) ++ closed (map hint_word line.hints))) ≡ Ok (Addition line)
addition_read lack place line a b =
    let hint_words = closed (map hint_word line.hints) in
    let first = read_closed literal_of literal_word line.lits hint_words place lack (lits_read line.lits a) in
    let second = read_closed hint_of hint_word line.hints [] first.0 lack (hints_read line.hints b) in
    let hints_are : up_to_zero hint_of lack (placed_from first.0 hint_words) ≡ Ok (line.hints, []) =
    ap (λ ws. up_to_zero hint_of lack (placed_from first.0 ws)) (sym (append-nil hint_words)) ∙ second.1 in
    let make : List LitValue → List ℤ × List Token → Result LratLine LratTextFault = λ lits hints. no_more hints.1 >>= (λ _. Ok (Addition (record { id = line.id; lits = lits; hints = hints.0 }))) in
    let next : List LitValue × List Token → Result LratLine LratTextFault = λ lits. up_to_zero hint_of lack lits.1 >>= make lits.0 in
    ap (λ q. q >>= next) first.1 ∙ ap (λ q. q >>= make line.lits) hints_are

deletion_read : (lack : LratTextFault) (place : ℕ) (deletion : DeletionValue) → All IsId deletion.ids → deletion_of lack deletion.id (placed_from place (closed (map decimal deletion.ids))) ≡ Ok (Deletion deletion)
deletion_read lack place deletion a =
    let id_words = closed (map decimal deletion.ids) in
    let first = read_closed id_of decimal deletion.ids [] place lack (ids_read deletion.ids a) in
    let ids_are : up_to_zero id_of lack (placed_from place id_words) ≡ Ok (deletion.ids, []) =
    ap (λ ws. up_to_zero id_of lack (placed_from place ws)) (sym (append-nil id_words)) ∙ first.1 in
    let next : List ℕ × List Token → Result LratLine LratTextFault = λ ids. no_more ids.1 >>= (λ _. Ok (Deletion (record { id = deletion.id; ids = ids.0 }))) in
    ap (λ q. q >>= next) ids_are

id_first : (lack : LratTextFault) (place id : ℕ) (ts : List Token) → IsId id → line_of lack (token place (decimal id) ∷ ts) ≡ Some (behind_id lack id ts)
id_first lack place id ts i =
    let big : 4294967295 < 2 ^ 64 = lit< tt in
    rw (no_comment id i.some (omega (arith, big, i.small))) (ap (λ q. Some (q >>= (λ n. behind_id lack n ts))) ((id_reads id i).reads place))

tokens_say : (lack : LratTextFault) (place : ℕ) (line : LratLine) → IsReadable line → line_of lack (placed_from place (line_words line)) ≡ Some (Ok line)
tokens_say lack place (Addition line) r =
    grind (arith, decimal line.id, id_first lack place line.id, behind_is lack line.id, lits_read line.lits r.1, addition_read lack)
tokens_say lack place (Deletion deletion) r =
    let next = place + length (decimal deletion.id) + 1 in
    let rest = placed_from next (codes "d" ∷ closed (map decimal deletion.ids)) in
    id_first lack place deletion.id rest r.0 ∙ ap (λ q. Some q) (deletion_read lack (next + 1 + 1) deletion r.1)

tokens_of_line : (line : LratLine) (place : ℕ) → IsReadable line → tokens_from place (join_with_byte 32 (line_words line)) ≡ placed_from place (line_words line)
tokens_of_line (Addition line) place r = tokens_are (decimal line.id) (closed (map literal_word line.lits) ++ closed (map hint_word line.hints)) place (words_are (Addition line) r)
tokens_of_line (Deletion deletion) place r = tokens_are (decimal deletion.id) (codes "d" ∷ closed (map decimal deletion.ids)) place (words_are (Deletion deletion) r)

-- a line is a row of its own, whatever follows
pub row_of_line : (l : LratLine) (more : List ℕ) → IsReadable l → rows_of (line (line_words l) ++ more) ≡ whole (join_with_byte 32 (line_words l)) ∷ rows_of more
row_of_line l more r =
    let bytes = join_with_byte 32 (line_words l) in
    ap rows_of (append_assoc bytes (10 ∷ []) more) ∙ rows_whole bytes more (joined_control (line_words l) (words_are l r))

-- and says the line
pub row_says_line : (l : LratLine) (place : ℕ) → IsReadable l → row_says place (whole (join_with_byte 32 (line_words l))) ≡ Some (Ok l)
row_says_line l place r = grind (arith, all_content, joined_control (line_words l) (words_are l r), words_are l r, tokens_of_line l place r, tokens_say)

pub read_back : (l : LratLine) (more : List ℕ) (finished : Bool) (place : ℕ) → IsReadable l → said_by finished place (rows_of (line (line_words l) ++ more)) ≡ record { answer = Ok (Some l); taken = length (line (line_words l)) }
read_back l more finished place r = grind (arith, length-append, row_of_line l more r, row_says_line l place r)
