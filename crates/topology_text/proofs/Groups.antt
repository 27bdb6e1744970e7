-- The lines of groups: what is read stands there, and what stands there is read.
use Rattle.std.proofs.lemmas.{Bool.Decides.nat_tests, Grind.common_steps}
use Rattle.std.proofs.Common.{◌≡◌, ℕ, ◌<◌, ◌≤◌, true, false, ◌||◌, not, leb, ltb, List, [], ◌∷◌, ◌++◌, map, length, drop, Option, None, Some, Result, Ok, refl, sym, ap, ◌∙◌, subst, arith, rules, codes, decimal, slice_index_or}
use Rattle.std.{proofs.lemmas.{Bool.{or_parts, not-false, leb-false, lt-leb, le-ltb, ltb-false}, List.{length-append, length-map, Elements.{All-nil, All-push, All-get_or, All-map, All-weaker, recursion_from_All}}}, specs.List.All}
use Rattle.text_lines.specs.{Text.{Row, Place, words_of}, Repeated.begins}
use Rattle.text_lines.proofs.{Checks.{bind_ok, refuse_ok, ok_is}, Distinct.next_has, Gives.{GivesPart, Takes, lines_give}, ReadBack.{Reads, Ends, ReadsLine, lines_again}, Repeated.place, Rows.{row_of, row_back, words_again}}
use Rattle.text_lines.proofs.Words.{IsWord, AreWords, literal, tokens_from, none_empty, begins_is, decimal_word, token-append}
use Rattle.schedule.specs.Links.{GroupValue, IsBelow, IsGroup}
use Rattle.topology_text.specs.{declared.fault.TopologyCode.{TopologyCode, TheVariants.{BadLine, TooManyGroups, WidthRange}}, Spelling.{link_word, group_words}, Reading.{has_empty, one_to_16, links_from, group_line, groups_at}}
use Rattle.topology_text.proofs.{Front.{Names, name_word}, Links.{links_nil, links_take, links_again, small_take, small_again}}

-- ---- words of links

link_is_word : (names : List (List ℕ)) (link : ℕ × ℕ) → Names names → IsBelow (length names) link → IsWord (link_word names link)
link_is_word names link ok below = grind (arith, name_word, All-get_or, literal, length-append, token-append)

links_are_words : (names : List (List ℕ)) (links : List (ℕ × ℕ)) → Names names → All (IsBelow (length names)) links → AreWords (map (link_word names) links)
links_are_words names links ok below = search (rules, recursion_from_All, All-map, All-weaker, link_is_word)

pub group_is_words : (names : List (List ℕ)) (g : GroupValue) → Names names → IsGroup g → All (IsBelow (length names)) g.links → AreWords (group_words names g)
group_is_words names g ok valid below = grind (arith, literal, decimal_word, links_are_words)

-- ---- one line

pub record GroupTaken (names : List (List ℕ)) (before : ℕ) (r : Row) (g : GroupValue) : Type 0 where
  pub spelled : r ≡ row_of (group_words names g)
  pub valid : IsGroup g
  pub below : All (IsBelow (length names)) g.links
  pub room : before < 256

-- a list of three or more, by its first two
parted : (words : List (List ℕ)) → 3 ≤ length words → (a : List ℕ) × (b : List ℕ) × (rest : List (List ℕ)) × (words ≡ a ∷ b ∷ rest) × (0 < length rest)
parted [] long = absurd (omega arith)
parted (a ∷ []) long = absurd (omega arith)
parted (a ∷ b ∷ rest) long = (a, b, rest, refl, omega arith)

pub group_take : (names : List (List ℕ)) (before : ℕ) (r : Row) (g : GroupValue) → begins (codes "group ") r.bytes ≡ true → group_line names before (Some r) ≡ Ok g → GroupTaken names before r g
group_take names before r g front e =
    let (shaped, e1) = refuse_ok (not r.whole || has_empty (words_of r.bytes) || ltb (length (words_of r.bytes)) 3) BadLine _ g e in
    let (room, e2) = refuse_ok (leb 256 before) TooManyGroups _ g e1 in
    let (width, wide, e3) = bind_ok (one_to_16 WidthRange (slice_index_or (words_of r.bytes) 1 [])) _ g e2 in
    let (links, read, e4) = bind_ok (links_from names [] (drop 2 (words_of r.bytes))) _ g e3 in
    let made : GroupValue = record { links = links; width = width } in
    let same : made ≡ g = ok_is {C = TopologyCode} made g e4 in
    let (halves, enough) = or_parts (not r.whole || has_empty (words_of r.bytes)) (ltb (length (words_of r.bytes)) 3) shaped in
    let (whole, full) = or_parts (not r.whole) (has_empty (words_of r.bytes)) halves in
    let (a, b, rest, words, some) = parted (words_of r.bytes) (ltb-false (length (words_of r.bytes)) 3 enough) in
    let head = begins_is (codes "group") r.bytes refl front in
    let named : a ≡ codes "group" = ap (λ ws. slice_index_or ws 0 []) (sym words ∙ head) in
    let wide_too : one_to_16 WidthRange b ≡ Ok width = ap (λ ws. one_to_16 WidthRange (slice_index_or ws 1 [])) (sym words) ∙ wide in
    let read_too : links_from names [] rest ≡ Ok links = ap (λ ws. links_from names [] (drop 2 ws)) (sym words) ∙ read in
    let (spelled, positive, narrow) = small_take WidthRange b width wide_too in
    let (all, valid) = links_take names [] rest links read_too (links_nil (length names)) in
    let line : words_of r.bytes ≡ group_words names made =
    words ∙ ap (λ w. w ∷ b ∷ rest) named ∙ ap (λ w. codes "group" ∷ w ∷ rest) spelled ∙ ap (λ ws. codes "group" ∷ decimal width ∷ ws) (sym all) in
    subst (GroupTaken names before r) same (record {
      spelled = row_back r (group_words names made) (not-false r.whole whole) line;
      valid = record { positive = positive; narrow = narrow; some = omega (arith, ap length all, length-map links (link_word names)); each = valid.each; distinct = valid.distinct };
      below = valid.below;
      room = leb-false 256 before room;
    })

group_again_at : (names : List (List ℕ)) (before : ℕ) (r : Row) (g : GroupValue) → r.whole ≡ true → words_of r.bytes ≡ group_words names g → Names names → IsGroup g → All (IsBelow (length names)) g.links → before < 256 → group_line names before (Some r) ≡ Ok g
group_again_at names before r g whole words ok valid below room =
    let full : has_empty (words_of r.bytes) ≡ false = ap has_empty words ∙ none_empty (group_words names g) (group_is_words names g ok valid below) in
    let long : ltb (length (words_of r.bytes)) 3 ≡ false = le-ltb (length (words_of r.bytes)) 3 (omega (arith, valid.some, ap length words, length-map g.links (link_word names))) in
    let wide : one_to_16 WidthRange (slice_index_or (words_of r.bytes) 1 []) ≡ Ok g.width = ap (λ ws. one_to_16 WidthRange (slice_index_or ws 1 [])) words ∙ small_again WidthRange g.width valid.positive valid.narrow in
    let read : links_from names [] (drop 2 (words_of r.bytes)) ≡ Ok g.links = ap (λ ws. links_from names [] (drop 2 ws)) words ∙ links_again names [] g.links ok (record { each = valid.each; below = below; distinct = valid.distinct }) in
    rw (whole, full, long, lt-leb 256 before room, wide, read) refl

pub group_again : (names : List (List ℕ)) (before : ℕ) (g : GroupValue) → Names names → IsGroup g → All (IsBelow (length names)) g.links → before < 256 → group_line names before (Some (row_of (group_words names g))) ≡ Ok g
group_again names before g ok valid below room =
    group_again_at names before (row_of (group_words names g)) g refl (words_again (group_words names g) (tokens_from (group_words names g) (omega arith) (group_is_words names g ok valid below))) ok valid below room

pub group_begins : (names : List (List ℕ)) (g : GroupValue) → begins (codes "group ") (row_of (group_words names g)).bytes ≡ true
group_begins names g = grind (arith, row_of)

-- ---- the lines of groups

-- groups that were read, of which there may be none
pub record Groups (nodes : ℕ) (groups : List GroupValue) : Type 0 where
  pub few : length groups ≤ 256
  pub each : All IsGroup groups
  pub below : All (λ g. All (IsBelow nodes) g.links) groups

pub groups_nil : (nodes : ℕ) → Groups nodes []
groups_nil nodes = record { few = omega arith; each = All-nil IsGroup; below = All-nil (λ g. All (IsBelow nodes) g.links) }

push_group : (names : List (List ℕ)) (before : List GroupValue) (r : Row) (g : GroupValue) → GroupTaken names (length before) r g → Groups (length names) before → Groups (length names) (before ++ g ∷ [])
push_group names before r g taken ok = grind (arith, nat_tests, common_steps, length-append, All-push)

module _ (names : List (List ℕ)) where
  -- behind so many groups
  abbrev pub next_group : List GroupValue → Option Row → Result GroupValue TopologyCode
  next_group before = group_line names (length before)

  group_takes : Takes (codes "group ") next_group (group_words names) (Groups (length names))
  group_takes before None g begun ok e = absurd (cc)
  group_takes before (Some r) g begun ok e = let t = group_take names (length before) r g begun e in (ap (λ x. Some x) t.spelled, push_group names before r g t ok)

  pub groups_give : (p : Place) → GivesPart (map (group_words names)) (Groups (length names)) p (groups_at names p)
  groups_give p = lines_give (codes "group ") next_group (group_words names) (Groups (length names)) group_takes (groups_nil (length names)) p

  group_reads : Names names → ReadsLine (codes "group ") next_group (group_words names) (Groups (length names))
  group_reads ok = grind (arith, group_again, next_has, length-append, group_begins)

  pub groups_read : (groups : List GroupValue) (n : ℕ) (rest : List Row) → Names names → Groups (length names) groups → Ends (codes "group ") rest → Reads (groups_at names (place n (map row_of (map (group_words names) groups) ++ rest))) groups rest
  groups_read groups n rest ok valid ends = lines_again (codes "group ") next_group (group_words names) (Groups (length names)) (group_reads ok) [] groups n rest valid ends
