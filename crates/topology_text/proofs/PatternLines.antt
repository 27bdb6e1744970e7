-- The lines of a pattern: what is read stands there, and what stands there is read.
use Rattle.std.proofs.Common.{◌≡◌, ℕ, ◌+◌, ◌^◌, ◌<◌, ◌≤◌, Bool, true, false, ◌||◌, not, eqb, List, [], ◌∷◌, ◌++◌, map, length, get_or, drop, Option, None, Some, Ok, Err, refl, sym, ap, ◌∙◌, subst, append_assoc, arith, bytes_eq, codes, decimal, nat_lt, slice_index_or}
use Rattle.std.proofs.lemmas.{Bool.{and_parts, and_from, eqb-true, eqb-false, false_from_ne_true, not-false, or_parts}, Fmt.decimal_injective, List.{append-nil, map_push, Elements.All-get_or}, Slice.Eq.bytes_eq-Decides}
use Rattle.std.specs.List.{list_all}
use Rattle.text_lines.specs.{Text.{Row, Place, words_of}, Check.{first, line_part}, Repeated.begins}
use Rattle.text_lines.proofs.{Checks.{refuse_ok, need_ok, ok_is}, Gives.{Gives, Between, line_gives}, Rows.{row_of, row_back, words_again}, Words.{IsWord, AreWords, literal, tokens_from, none_empty, begins_is, decimal_word}}
use Rattle.topology_text.specs.{declared.fault.TopologyCode.{TopologyCode, TheVariants.{BadLine, UnknownNode, BaseRange, NameOrder}}, Spelling.name_at, Reading.{has_empty, node_of, custom_line, holders_from, has_front, holders_line}}
use Rattle.topology_text.proofs.{Front.{Names, name_word}, Links.{node_is, node_again, small_take, small_again}, Held.{Ascends, ascends_push, ascends_next, ascends_above}}

-- ---- the number of chunks

abbrev pub base_words : ℕ → List (List ℕ)
base_words base = codes "custom" ∷ decimal base ∷ []

pub base_are_words : (base : ℕ) → base ≤ 16 → AreWords (base_words base)
base_are_words base few = (literal (codes "custom") refl, (decimal_word base (omega arith), tt))

pub record IsBase (base : ℕ) : Type 0 where
  pub some : 0 < base
  pub few : base ≤ 16

two_words : (words : List (List ℕ)) → eqb (length words) 2 ≡ true → words ≡ get_or words 0 [] ∷ get_or words 1 [] ∷ []
two_words [] e = absurd (omega (arith, eqb-true 0 2 e))
two_words (a ∷ []) e = absurd (omega (arith, eqb-true 1 2 e))
two_words (a ∷ b ∷ []) e = refl
two_words (a ∷ b ∷ c ∷ words) e = absurd (omega (arith, eqb-true (length (a ∷ b ∷ c ∷ words)) 2 e))

custom_take : (o : Option Row) (base : ℕ) → custom_line o ≡ Ok base → (o ≡ Some (row_of (base_words base))) × IsBase base
custom_take None base e = absurd (cc)
custom_take (Some r) base e =
    let words = words_of r.bytes in
    let front : Bool = begins (codes "custom ") r.bytes in
    let two : Bool = eqb (length words) 2 in
    let (shape, e1) = refuse_ok (not r.whole || not front || not two) BadLine _ base e in
    let (early, pair) = or_parts (not r.whole || not front) (not two) shape in
    let (whole, begun) = or_parts (not r.whole) (not front) early in
    let (spelled, some, few) = small_take BaseRange (slice_index_or words 1 []) base e1 in
    let first = begins_is (codes "custom") r.bytes refl (not-false front begun) in
    let line : words ≡ base_words base = two_words words (not-false two pair) ∙ ap (λ w. get_or w 0 [] ∷ get_or words 1 [] ∷ []) first ∙ ap (λ w. codes "custom" ∷ w ∷ []) spelled in
    (ap (λ x. Some x) (row_back r (base_words base) (not-false r.whole whole) line), record { some = some; few = few })

pub custom_gives : (p : Place) → Gives (λ (e : TopologyCode × ℕ). e.1 ≡ p.number) (λ (x : ℕ × Place). IsBase x.0 × Between (base_words x.0 ∷ []) p x.1) (line_part custom_line p)
custom_gives p = line_gives custom_line base_words p (λ base e. custom_take (first p.rows) base e)

custom_at : (r : Row) (base : ℕ) → r.whole ≡ true → begins (codes "custom ") r.bytes ≡ true → words_of r.bytes ≡ base_words base → 0 < base → base ≤ 16 → custom_line (Some r) ≡ Ok base
custom_at r base whole front words some few = grind (arith, slice_index_or, small_again)

pub custom_again : (base : ℕ) → 0 < base → base ≤ 16 → custom_line (Some (row_of (base_words base))) ≡ Ok base
custom_again base some few = custom_at (row_of (base_words base)) base refl refl (words_again (base_words base) (tokens_from (base_words base) (omega arith) (base_are_words base few))) some few

-- ---- the nodes that hold a chunk

pub out_of_order : (names : List (List ℕ)) (before : List ℕ) (word : List ℕ) (words : List (List ℕ)) (node : ℕ) → Some node ≡ node_of names word → list_all (λ other. nat_lt other node) before ≡ false → holders_from names before (word ∷ words) ≡ Err NameOrder
out_of_order names before word words node found behind = rw (sym found, behind) refl

pub holders_take : (names : List (List ℕ)) (before : List ℕ) (words : List (List ℕ)) (nodes : List ℕ) → holders_from names before words ≡ Ok nodes → Ascends 0 (length names) before → (map (name_at names) nodes ≡ map (name_at names) before ++ words) × Ascends 0 (length names) nodes
holders_take names before [] nodes e ok = grind (arith, ok_is, append-nil)
holders_take names before (word ∷ words) nodes e ok =
    let (node, found, e1) = need_ok (node_of names word) UnknownNode _ nodes e in
    let above : Bool = list_all (λ other. nat_lt other node) before in
    let (behind, e2) = refuse_ok (not above) NameOrder _ nodes e1 in
    let (within, named) = node_is names word node found in
    let (all, valid) = holders_take names (before ++ node ∷ []) words nodes e2 (ascends_push 0 (length names) before node ok (omega arith) within (not-false above behind)) in (
      all ∙ ap (λ ws. ws ++ words) (map_push (name_at names) before node) ∙ append_assoc (map (name_at names) before) (name_at names node ∷ []) words
          ∙ ap (λ w. map (name_at names) before ++ w ∷ words) named,
      valid,
    )

pub holders_again : (names : List (List ℕ)) (before more : List ℕ) → Names names → Ascends 0 (length names) (before ++ more) → holders_from names before (map (name_at names) more) ≡ Ok (before ++ more)
holders_again names before [] ok valid = ap (λ ns. Ok ns) (sym (append-nil before))
holders_again names before (node ∷ more) ok valid =
    let (low, within) = ascends_next 0 (length names) before node more valid in
    let rest = holders_again names (before ++ node ∷ []) more ok (subst (Ascends 0 (length names)) (sym (append_assoc before (node ∷ []) more)) valid) in
    rw (node_again names node ok.distinct within, ascends_above 0 (length names) before node more valid) (rest ∙ ap (λ ns. Ok ns) (append_assoc before (node ∷ []) more))

-- ---- the number of a chunk

pub same_number : (word : List ℕ) (read number : ℕ) → word ≡ decimal read → read < 2 ^ 64 → number < 2 ^ 64 → eqb read number ≡ bytes_eq (decimal number) word
same_number word read number spelled small small_too = grind (arith, bytes_eq, bytes_eq-Decides, eqb-true, false_from_ne_true, eqb-false, decimal_injective)

pub no_number : (word : List ℕ) (number : ℕ) → (word ≡ decimal number → ⊥) → false ≡ bytes_eq (decimal number) word
no_number word number other = sym (false_from_ne_true (bytes_eq (decimal number) word) (λ t. other (sym ((bytes_eq-Decides (decimal number) word).0 t))))

-- ---- a line of holders

-- a word, the number of the chunk, and the names of these nodes
abbrev pub named_words : List (List ℕ) → List ℕ → ℕ → List ℕ → List (List ℕ)
named_words names word g nodes = word ∷ decimal g ∷ map (name_at names) nodes

nodes_are_words : (names : List (List ℕ)) (lo : ℕ) (nodes : List ℕ) → Names names → Ascends lo (length names) nodes → AreWords (map (name_at names) nodes)
nodes_are_words names lo [] ok valid = tt
nodes_are_words names lo (node ∷ nodes) ok valid = grind (arith, name_word, All-get_or, nodes_are_words names (node + 1) nodes ok valid.1)

pub named_are_words : (names : List (List ℕ)) (word : List ℕ) (g : ℕ) (nodes : List ℕ) → IsWord word → g < 2 ^ 64 → Names names → Ascends 0 (length names) nodes → AreWords (named_words names word g nodes)
named_are_words names word g nodes is small ok valid = (is, (decimal_word g small, nodes_are_words names 0 nodes ok valid))

front_is : (word number : List ℕ) (words : List (List ℕ)) → has_front word number words ≡ true → words ≡ word ∷ number ∷ drop 2 words
front_is word number [] e = absurd (cc)
front_is word number (a ∷ []) e = absurd (cc)
front_is word number (a ∷ b ∷ words) e = grind (arith, and_parts, bytes_eq, bytes_eq-Decides)

holders_line_take : (names : List (List ℕ)) (word : List ℕ) (g : ℕ) (o : Option Row) (nodes : List ℕ) → holders_line names word g o ≡ Ok nodes → (o ≡ Some (row_of (named_words names word g nodes))) × Ascends 0 (length names) nodes
holders_line_take names word g None nodes e = absurd (cc)
holders_line_take names word g (Some r) nodes e =
    let words = words_of r.bytes in
    let front : Bool = has_front word (decimal g) words in
    let (shape, e1) = refuse_ok (not r.whole || not front || has_empty words) BadLine _ nodes e in
    let (early, full) = or_parts (not r.whole || not front) (has_empty words) shape in
    let (whole, begun) = or_parts (not r.whole) (not front) early in
    let (all, valid) = holders_take names [] (drop 2 words) nodes e1 tt in
    let line : words ≡ named_words names word g nodes = front_is word (decimal g) words (not-false front begun) ∙ ap (λ ws. word ∷ decimal g ∷ ws) (sym all) in
    (ap (λ x. Some x) (row_back r (named_words names word g nodes) (not-false r.whole whole) line), valid)

pub holders_line_gives : (names : List (List ℕ)) (word : List ℕ) (g : ℕ) (p : Place)
    → Gives (λ (e : TopologyCode × ℕ). e.1 ≡ p.number) (λ (x : List ℕ × Place). Ascends 0 (length names) x.0 × Between (named_words names word g x.0 ∷ []) p x.1) (line_part (holders_line names word g) p)
holders_line_gives names word g p = line_gives (holders_line names word g) (named_words names word g) p (λ nodes e. holders_line_take names word g (first p.rows) nodes e)

holders_at_row : (names : List (List ℕ)) (word : List ℕ) (g : ℕ) (r : Row) (nodes : List ℕ) → r.whole ≡ true → words_of r.bytes ≡ named_words names word g nodes → IsWord word → g < 2 ^ 64 → Names names → Ascends 0 (length names) nodes → holders_line names word g (Some r) ≡ Ok nodes
holders_at_row names word g r nodes whole words is small ok valid = grind (arith, bytes_eq, bytes_eq-Decides, and_from, none_empty, named_are_words, holders_again)

pub holders_line_again : (names : List (List ℕ)) (word : List ℕ) (g : ℕ) (nodes : List ℕ) → IsWord word → g < 2 ^ 64 → Names names → Ascends 0 (length names) nodes → holders_line names word g (Some (row_of (named_words names word g nodes))) ≡ Ok nodes
holders_line_again names word g nodes is small ok valid =
    holders_at_row names word g (row_of (named_words names word g nodes)) nodes refl (words_again (named_words names word g nodes) (tokens_from (named_words names word g nodes) (omega arith) (named_are_words names word g nodes is small ok valid))) is small ok valid
