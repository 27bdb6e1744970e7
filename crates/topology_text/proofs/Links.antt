-- The links and the width of a group's line: what is read stands there, and what stands there is read.
use Rattle.std.proofs.lemmas.{Bool.Decides.nat_tests, Grind.common_steps}
use Rattle.std.proofs.Common.{◌≡◌, ℕ, ◌<◌, ◌≤◌, true, false, eqb, ltb, List, [], ◌∷◌, ◌++◌, map, length, get_or, None, Some, Ok, refl, sym, ap, ◌∙◌, subst, append_assoc, arith, bytes_eq, decimal}
use Rattle.std.proofs.lemmas.{List.{append-nil, length-map, map_push, Elements.{All-nil, All-push, All-get_or}, Quantifiers.position-Some}, Bool.{eqb-false, ne_eqb, cond-true, lt-ltb, false_from_ne_true}, Slice.Eq.bytes_eq-Decides}
use Rattle.std.{proofs.lemmas.List.{Sums.position_or_len_is, Splits.{slice_split_at, slice_split_none, join_with_byte-slice_split}}, specs.{Bool.Decides, List.{All, list_any, join_with_byte, position_or_len}}}
use Rattle.text_lines.proofs.{Checks.{bind_ok, refuse_ok, need_ok, ok_is}, Distinct.{AreDistinct, distinct_nil, distinct_push, none_before, next_has}, Numbers.{up_to_found, up_to_some}}
use Rattle.schedule.{specs.{Links.{IsLink, IsBelow, IsGroup}, Placed.same_pair}, proofs.Placing.{pair_is, pair_itself}}
use Rattle.topology_text.specs.{declared.fault.TopologyCode.{TopologyCode, TheVariants.{UnknownNode, SelfLink, LinkTwice, WidthRange}}, Names.is_name, Spelling.{name_at, link_word}}
use Rattle.topology_text.{specs.Reading.{both_sides, node_of, link_read, links_from, one_to_16}, proofs.{Front.{Names, name_free}, Sides.{pieces, sides}}}

-- ---- nodes

pub node_is : (names : List (List ℕ)) (name : List ℕ) (i : ℕ) → node_of names name ≡ Some i → (i < length names) × (name_at names i ≡ name)
node_is names name i e = grind (arith, position-Some, bytes_eq, bytes_eq-Decides)

pub node_again : (names : List (List ℕ)) (i : ℕ) → AreDistinct names → i < length names → node_of names (name_at names i) ≡ Some i
node_again names i distinct within =
    let name : List ℕ = get_or names i [] in
    let earlier : (k : ℕ) → k < i → bytes_eq name (get_or names k []) ≡ false = λ k h. false_from_ne_true (bytes_eq name (get_or names k [])) (λ t. distinct k i [] h within (sym ((bytes_eq-Decides name (get_or names k [])).0 t))) in
    let here : bytes_eq name name ≡ true = (bytes_eq-Decides name name).1 refl in
    let place : position_or_len (bytes_eq name) names ≡ i = position_or_len_is (bytes_eq name) names i [] (omega arith) earlier (λ h. here) in
    let inside : ltb (position_or_len (bytes_eq name) names) (length names) ≡ true = lt-ltb (position_or_len (bytes_eq name) names) (length names) (omega arith) in
    cond-true (ltb (position_or_len (bytes_eq name) names) (length names)) (Some (position_or_len (bytes_eq name) names)) None inside ∙ ap (λ k. Some k) place

-- ---- one link

sides_are : (parts : List (List ℕ)) (x : List ℕ × List ℕ) → both_sides parts ≡ Ok x → parts ≡ x.0 ∷ x.1 ∷ []
sides_are [] x e = absurd (cc)
sides_are (a ∷ []) x e = absurd (cc)
sides_are (a ∷ b ∷ []) x e = let same : (a, b) ≡ x = ok_is {C = TopologyCode} (a, b) x e in ap (λ y. y.0 ∷ y.1 ∷ []) same
sides_are (a ∷ b ∷ c ∷ parts) x e = absurd (cc)

pub record Taken (names : List (List ℕ)) (word : List ℕ) (link : ℕ × ℕ) : Type 0 where
  pub apart : IsLink link
  pub below : IsBelow (length names) link
  pub spelled : word ≡ link_word names link

pub link_take : (names : List (List ℕ)) (word : List ℕ) (link : ℕ × ℕ) → link_read names word ≡ Ok link → Taken names word link
link_take names word link e =
    let (x, cut, e1) = bind_ok (sides word) _ link e in
    let (from, first, e2) = need_ok (node_of names x.0) UnknownNode _ link e1 in
    let (to, second, e3) = need_ok (node_of names x.1) UnknownNode _ link e2 in
    let (differ, e4) = refuse_ok (eqb from to) SelfLink _ link e3 in
    let same : (from, to) ≡ link = ok_is {C = TopologyCode} (from, to) link e4 in
    let (low, spelled) = node_is names x.0 from first in
    let (high, spelled_too) = node_is names x.1 to second in
    let parts : word ≡ x.0 ++ 62 ∷ x.1 = sym (join_with_byte-slice_split 62 word) ∙ ap (join_with_byte 62) (sides_are (pieces word) x cut) in
    let words : x.0 ++ 62 ∷ x.1 ≡ link_word names (from, to) = ap (λ a. a ++ 62 ∷ x.1) (sym spelled) ∙ ap (λ b. name_at names from ++ 62 ∷ b) (sym spelled_too) in
    subst (Taken names word) same (record { apart = record { apart = eqb-false from to differ }; below = record { from = low; to = high }; spelled = parts ∙ words })

pub link_again : (names : List (List ℕ)) (link : ℕ × ℕ) → Names names → IsLink link → IsBelow (length names) link → link_read names (link_word names link) ≡ Ok link
link_again names link ok apart below =
    let from_name : List ℕ = name_at names link.0 in
    let to_name : List ℕ = name_at names link.1 in
    let free = name_free from_name (All-get_or (λ n. is_name n ≡ true) names link.0 [] below.from ok.each) in
    let free_too = name_free to_name (All-get_or (λ n. is_name n ≡ true) names link.1 [] below.to ok.each) in
    let cut : pieces (link_word names link) ≡ from_name ∷ to_name ∷ [] =
    slice_split_at (λ b. eqb b 62) from_name 62 to_name free refl ∙ ap (λ ps. from_name ∷ ps) (slice_split_none (λ b. eqb b 62) to_name free_too) in
    rw (cut, node_again names link.0 ok.distinct below.from, node_again names link.1 ok.distinct below.to, ne_eqb link.0 link.1 apart.apart) refl

-- ---- the links of a group

pub same_pair-Decides : (a b : ℕ × ℕ) → Decides (same_pair a b) (a ≡ b)
same_pair-Decides a b = (pair_is a b, λ e. subst (λ (x : ℕ × ℕ). same_pair a x ≡ true) e (pair_itself a))

-- links that were read, of which there may be none
pub record Links (nodes : ℕ) (links : List (ℕ × ℕ)) : Type 0 where
  pub each : All IsLink links
  pub below : All (IsBelow nodes) links
  pub distinct : AreDistinct links

pub links_nil : (nodes : ℕ) → Links nodes []
links_nil nodes = record { each = All-nil IsLink; below = All-nil (IsBelow nodes); distinct = distinct_nil }

push_link : (nodes : ℕ) (before : List (ℕ × ℕ)) (link : ℕ × ℕ) → IsLink link → IsBelow nodes link → list_any (same_pair link) before ≡ false → Links nodes before → Links nodes (before ++ link ∷ [])
push_link nodes before link apart below fresh ok = grind (arith, nat_tests, common_steps, All-push, distinct_push, same_pair-Decides)

pub links_take : (names : List (List ℕ)) (before : List (ℕ × ℕ)) (words : List (List ℕ)) (links : List (ℕ × ℕ)) → links_from names before words ≡ Ok links → Links (length names) before → (map (link_word names) links ≡ map (link_word names) before ++ words) × Links (length names) links
links_take names before [] links e ok = grind (arith, ok_is, append-nil)
links_take names before (word ∷ words) links e ok =
    let (link, read, e1) = bind_ok (link_read names word) _ links e in
    let (fresh, e2) = refuse_ok (list_any (same_pair link) before) LinkTwice _ links e1 in
    let taken = link_take names word link read in
    let (all, valid) = links_take names (before ++ link ∷ []) words links e2 (push_link (length names) before link taken.apart taken.below fresh ok) in (
      all ∙ ap (λ ws. ws ++ words) (map_push (link_word names) before link) ∙ append_assoc (map (link_word names) before) (link_word names link ∷ []) words
          ∙ ap (λ w. map (link_word names) before ++ w ∷ words) (sym taken.spelled),
      valid,
    )

pub links_again : (names : List (List ℕ)) (before rest : List (ℕ × ℕ)) → Names names → Links (length names) (before ++ rest) → links_from names before (map (link_word names) rest) ≡ Ok (before ++ rest)
links_again names before [] ok valid = ap (λ l. Ok l) (sym (append-nil before))
links_again names before (link ∷ rest) ok valid =
    let read = link_again names link ok (next_has IsLink before link rest valid.each) (next_has (IsBelow (length names)) before link rest valid.below) in
    let fresh = none_before same_pair same_pair-Decides before link rest valid.distinct in
    let more = links_again names (before ++ link ∷ []) rest ok (subst (Links (length names)) (sym (append_assoc before (link ∷ []) rest)) valid) in
    rw (read, fresh) (more ∙ ap (λ l. Ok l) (append_assoc before (link ∷ []) rest))

-- ---- a number from 1 to 16

pub small_take : (code : TopologyCode) (word : List ℕ) (n : ℕ) → one_to_16 code word ≡ Ok n → (word ≡ decimal n) × (0 < n) × (n ≤ 16)
small_take code word n e = grind (arith, need_ok, refuse_ok, ok_is, up_to_found, eqb-false)

pub small_again : (code : TopologyCode) (n : ℕ) → 0 < n → n ≤ 16 → one_to_16 code (decimal n) ≡ Ok n
small_again code n some small = grind (arith, up_to_some, ne_eqb)

-- ---- what was read is a group

pub group_valid : (names : List (List ℕ)) (word : List ℕ) (words : List (List ℕ)) (w : ℕ) (links : List (ℕ × ℕ)) → one_to_16 WidthRange word ≡ Ok w → links_from names [] words ≡ Ok links → 0 < length words → IsGroup (record { links = links; width = w })
group_valid names word words w links wide read some =
    let (spelled, positive, narrow) = small_take WidthRange word w wide in
    let (all, valid) = links_take names [] words links read (links_nil (length names)) in
    record { positive = positive; narrow = narrow; some = omega (arith, ap length all, length-map links (link_word names)); each = valid.each; distinct = valid.distinct }
