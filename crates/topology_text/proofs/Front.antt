-- The lines of the header and of the nodes: what is read stands there, and what stands there is read.
use Rattle.std.proofs.lemmas.{Bool.Decides.nat_tests, Grind.common_steps}
use Rattle.std.proofs.Common.{◌≡◌, ℕ, ◌<◌, ◌≤◌, Bool, true, false, ◌||◌, not, cond, eqb, leb, List, [], ◌∷◌, ◌++◌, length, drop, Option, None, Some, Ok, refl, sym, ap, ◌∙◌, subst, append_assoc, arith, rules, bytes_eq, codes, nat_le, if◌then◌else◌}
use Rattle.std.proofs.lemmas.{List.{append-nil, length-append, Splits.length-slice_split}, Bool.{and_parts, or_parts, not-false, leb-true, leb-false, ltb-true, lt-leb, cond-true, or_cases, eqb-true, ne_eqb, false_from_ne_true}}
use Rattle.std.{proofs.lemmas.{List.{Elements.{All-nil, All-push, All-weaker, recursion_from_All}, Sums.AllPass-from_list_all}, Slice.Eq.bytes_eq-Decides}, specs.{Option.is_some, List.{All, list_any}}}
use Rattle.text_lines.specs.{Text.{Row, Place, words_of}, Check.{first, line_part}, Repeated.begins}
use Rattle.text_lines.proofs.{Checks.{if_some, refuse_ok, need_ok, need_is, ok_is}, Distinct.{AreDistinct, distinct_nil, distinct_push, none_before, next_has}, Gives.{Gives, Between, line_gives}, ReadBack.{Reads, line_again}}
use Rattle.text_lines.proofs.{Repeated.place, Rows.{row_of, row_back, words_again}, Words.{IsWord, AreWords, literal, tokens_from, none_empty, begins_is}}
use Rattle.collective_spec.specs.Patterns.{PatternValue}
use Rattle.topology_text.specs.{declared.fault.TopologyCode.{TopologyCode, TheVariants.{BadLine, BadName, NameTwice, TooManyNodes, NoNodes}}, Names.{is_name_byte, is_name, name_of, AreNames}}
use Rattle.topology_text.specs.{Spelling.{header_words, nodes_words, head_words}, Reading.{has_empty, header_line, names_from, nodes_line}}

-- what a test chose is the one, or the other
pub chosen : {X G : Type 0} {z : X} (b : Bool) (x y : X) → cond b x y ≡ z → (b ≡ true → x ≡ z → G) → (b ≡ false → y ≡ z → G) → G
chosen true x y e here there = here refl e
chosen false x y e here there = there refl e

-- ---- line 1

-- which of two lines it is
pub version_words : (one two : List ℕ) (head : Bool → List (List ℕ)) → words_of one ≡ head false → words_of two ≡ head true → (bytes : List ℕ) (b : Bool)
    → (if bytes_eq bytes one then Some false else (if bytes_eq bytes two then Some true else None)) ≡ Some b → words_of bytes ≡ head b
version_words one two head first second bytes b e = grind (arith, chosen, bytes_eq, bytes_eq-Decides)

pub header_takes : (o : Option Row) (patterned : Bool) → header_line o ≡ Ok patterned → o ≡ Some (row_of (head_words patterned))
header_takes None patterned e = absurd (cc)
header_takes (Some r) patterned e = search (rules, refuse_ok, version_words, need_is, row_back, not-false)

pub header_gives : (p : Place) → Gives (λ (e : TopologyCode × ℕ). e.1 ≡ p.number) (λ (x : Bool × Place). Unit {0} × Between (head_words x.0 ∷ []) p x.1) (line_part header_line p)
header_gives p = line_gives header_line head_words p (λ b e. (header_takes (first p.rows) b e, tt))

header_again : (patterned : Bool) → header_line (Some (row_of (head_words patterned))) ≡ Ok patterned
header_again true = refl
header_again false = refl

pub header_reads : (patterned : Bool) (n : ℕ) (rows : List Row) → Reads (line_part header_line (place n (row_of (head_words patterned) ∷ rows))) patterned rows
header_reads patterned n rows = line_again header_line (row_of (head_words patterned)) patterned n rows (header_again patterned)

-- the words of the header of a topology
pub head_is : (custom : Option PatternValue) → header_words custom ≡ head_words (is_some custom)
head_is None = refl
head_is (Some p) = refl

-- ---- names

-- names that were read, of which there may be none
pub record Names (names : List (List ℕ)) : Type 0 where
  pub few : length names ≤ 16
  pub each : All (λ n. is_name n ≡ true) names
  pub distinct : AreDistinct names

pub names_nil : Names []
names_nil = record { few = omega arith; each = All-nil (λ n. is_name n ≡ true); distinct = distinct_nil }

pub name_of_is : (word name : List ℕ) → name_of word ≡ Some name → (is_name word ≡ true) × (name ≡ word)
name_of_is word name e = grind (arith, if_some)

pub name_of_name : (word : List ℕ) → is_name word ≡ true → name_of word ≡ Some word
name_of_name word is = cond-true (is_name word) (Some word) None is

push_name : (before : List (List ℕ)) (name : List ℕ) → leb 16 (length before) ≡ false → is_name name ≡ true → list_any (bytes_eq name) before ≡ false → Names before → Names (before ++ name ∷ [])
push_name before name room is fresh ok = grind (arith, nat_tests, common_steps, leb-false, length-append, All-push, distinct_push, bytes_eq, bytes_eq-Decides)

pub names_take : (before words names : List (List ℕ)) → names_from before words ≡ Ok names → Names before → (names ≡ before ++ words) × Names names
names_take before [] names e ok = grind (arith, ok_is, append-nil)
names_take before (word ∷ words) names e ok =
    let (room, e1) = refuse_ok (nat_le 16 (length before)) TooManyNodes _ names e in
    let (name, found, e2) = need_ok (name_of word) BadName _ names e1 in
    let (fresh, e3) = refuse_ok (list_any (bytes_eq name) before) NameTwice _ names e2 in
    let (is, same) = name_of_is word name found in
    let (all, valid) = names_take (before ++ name ∷ []) words names e3 (push_name before name room (ap is_name same ∙ is) fresh ok) in
    (all ∙ append_assoc before (name ∷ []) words ∙ ap (λ n. before ++ n ∷ words) same, valid)

pub names_again : (before words : List (List ℕ)) → Names (before ++ words) → names_from before words ≡ Ok (before ++ words)
names_again before [] ok = ap (λ n. Ok n) (sym (append-nil before))
names_again before (word ∷ words) ok =
    let room : leb 16 (length before) ≡ false = lt-leb 16 (length before) (omega (arith, ok.few, length-append before (word ∷ words))) in
    let is : is_name word ≡ true = next_has (λ n. is_name n ≡ true) before word words ok.each in
    let fresh : list_any (bytes_eq word) before ≡ false = none_before bytes_eq bytes_eq-Decides before word words ok.distinct in
    let rest = names_again (before ++ word ∷ []) words (subst Names (sym (append_assoc before (word ∷ []) words)) ok) in
    rw (room, is, fresh) (rest ∙ ap (λ n. Ok n) (append_assoc before (word ∷ []) words))

name_byte_is : (b : ℕ) → is_name_byte b ≡ true → (32 < b) × (eqb b 62 ≡ false)
name_byte_is b e = grind (arith, or_cases, leb-true, and_parts, eqb-true, ne_eqb)

pub name_word : (name : List ℕ) → is_name name ≡ true → IsWord name
name_word name is = grind (arith, and_parts, ltb-true, All-weaker, name_byte_is, AllPass-from_list_all)

pub name_free : (name : List ℕ) → is_name name ≡ true → All (λ b. eqb b 62 ≡ false) name
name_free name is = grind (arith, and_parts, All-weaker, name_byte_is, AllPass-from_list_all)

pub names_are_words : (names : List (List ℕ)) → All (λ n. is_name n ≡ true) names → AreWords names
names_are_words names each = recursion_from_All IsWord names (All-weaker (λ n. is_name n ≡ true) IsWord name_word names each)

pub nodes_are_words : (names : List (List ℕ)) → AreNames names → AreWords (nodes_words names)
nodes_are_words names ok = (literal (codes "nodes") refl, names_are_words names ok.each)

-- ---- line 2

pub nodes_line_take : (o : Option Row) (names : List (List ℕ)) → nodes_line o ≡ Ok names → (o ≡ Some (row_of (nodes_words names))) × AreNames names
nodes_line_take None names e = absurd (cc)
nodes_line_take (Some r) names e =
    let (whole, e1) = refuse_ok (not r.whole) BadLine _ names e in
    let (other, e2) = refuse_ok (bytes_eq r.bytes (codes "nodes")) NoNodes _ names e1 in
    let (fits, e3) = refuse_ok (not (begins (codes "nodes ") r.bytes) || has_empty (words_of r.bytes)) BadLine _ names e2 in
    let (front, full) = or_parts (not (begins (codes "nodes ") r.bytes)) (has_empty (words_of r.bytes)) fits in
    let (all, ok) = names_take [] (drop 1 (words_of r.bytes)) names e3 names_nil in
    let rest = drop 6 r.bytes in
    let words : words_of r.bytes ≡ codes "nodes" ∷ words_of rest = begins_is (codes "nodes") r.bytes refl (not-false (begins (codes "nodes ") r.bytes) front) in
    let named : names ≡ words_of rest = all ∙ ap (drop 1) words in
    let some : 0 < length names = omega (arith, ap length named, length-slice_split (λ b. eqb b 32) rest) in (
      ap (λ x. Some x) (row_back r (nodes_words names) (not-false r.whole whole) (words ∙ ap (λ n. codes "nodes" ∷ n) (sym named))),
      record { some = some; few = ok.few; each = ok.each; distinct = ok.distinct },
    )

nodes_at : (r : Row) (names : List (List ℕ)) → r.whole ≡ true → begins (codes "nodes ") r.bytes ≡ true → words_of r.bytes ≡ nodes_words names → AreNames names → nodes_line (Some r) ≡ Ok names
nodes_at r names whole front words ok =
    let long : (bytes_eq r.bytes (codes "nodes") ≡ true) → ⊥ = λ t.
    let alone : words_of r.bytes ≡ codes "nodes" ∷ [] = ap words_of ((bytes_eq-Decides r.bytes (codes "nodes")).0 t) in
    let some = ok.some in
    omega (arith, ap length (sym words ∙ alone)) in
    let other = false_from_ne_true (bytes_eq r.bytes (codes "nodes")) long in
    let full : has_empty (words_of r.bytes) ≡ false = ap has_empty words ∙ none_empty (nodes_words names) (nodes_are_words names ok) in
    let listed : names_from [] (drop 1 (words_of r.bytes)) ≡ Ok names = ap (λ w. names_from [] (drop 1 w)) words ∙ names_again [] names (record { few = ok.few; each = ok.each; distinct = ok.distinct }) in
    rw (whole, other, front, full) listed

nodes_again : (names : List (List ℕ)) → AreNames names → nodes_line (Some (row_of (nodes_words names))) ≡ Ok names
nodes_again [] ok = let some = ok.some in absurd (omega arith)
nodes_again (name ∷ names) ok = nodes_at (row_of (nodes_words (name ∷ names))) (name ∷ names) refl refl (words_again (nodes_words (name ∷ names)) (tokens_from (nodes_words (name ∷ names)) (omega arith) (nodes_are_words (name ∷ names) ok))) ok

pub nodes_give : (p : Place) → Gives (λ (e : TopologyCode × ℕ). e.1 ≡ p.number) (λ (x : List (List ℕ) × Place). AreNames x.0 × Between (nodes_words x.0 ∷ []) p x.1) (line_part nodes_line p)
nodes_give p = line_gives nodes_line nodes_words p (λ names e. nodes_line_take (first p.rows) names e)

pub nodes_reads : (names : List (List ℕ)) (n : ℕ) (rows : List Row) → AreNames names → Reads (line_part nodes_line (place n (row_of (nodes_words names) ∷ rows))) names rows
nodes_reads names n rows ok = line_again nodes_line (row_of (nodes_words names)) names n rows (nodes_again names ok)
