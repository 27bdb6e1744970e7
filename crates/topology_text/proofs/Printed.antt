-- What the printer appends is the spelling.
use Rattle.std.proofs.lemmas.{Bool.Decides.nat_tests, Grind.{common_steps, flat_map-append}}
use Rattle.std.proofs.Common.{◌≡◌, ℕ, ◌+◌, Bool, true, false, cond, List, [], ◌∷◌, ◌++◌, map, length, take, Option, None, Some, refl, sym, ap, ◌∙◌, append_assoc, arith, codes, decimal}
use Rattle.std.proofs.{lemmas.List.{append-nil, map-append, map-id, take_all, FromFn.{filter_of_map_range_with_len_more, map-range_with_len_more}}}
use Rattle.std.specs.{Io.StartsWith, List.{filter, flat_map, range_with_len}}
use Rattle.text_lines.{specs.Text.{line, text_of, fields}, proofs.Words.join_fields}
use Rattle.schedule.specs.Links.{GroupValue}
use Rattle.collective_spec.specs.Patterns.{PatternValue}
use Rattle.topology_text.specs.{Value.NamedTopologyValue, Spelling.{name_at, link_word, header_words, nodes_words, group_words, holder_words, custom_lines, spelling}}

-- four pieces, appended one after another
pub appended : (a b c d e x y z w all : List ℕ) → b ≡ a ++ x → c ≡ b ++ y → d ≡ c ++ z → e ≡ d ++ w → x ++ (y ++ (z ++ w)) ≡ all → e ≡ a ++ all
appended a b c d e x y z w all hb hc hd he whole = rw (he, hd, hc, hb, sym whole) (simp append_assoc)

-- three pieces
pub appended_three : (a b c d x y z all : List ℕ) → b ≡ a ++ x → c ≡ b ++ y → d ≡ c ++ z → x ++ (y ++ z) ≡ all → d ≡ a ++ all
appended_three a b c d x y z all hb hc hd whole = rw (hd, hc, hb, sym whole) (simp append_assoc)

-- a loop that appends, at one piece more
pub appended_more : {X : Type 0} (out so_far one all before now : List X) → before ≡ out ++ so_far → now ≡ before ++ one → all ≡ so_far ++ one → now ≡ out ++ all
appended_more out so_far one all before now so pushed whole = pushed ∙ ap (λ b. b ++ one) so ∙ append_assoc out so_far one ∙ ap (λ r. out ++ r) (sym whole)

pub group_printed : (names : List (List ℕ)) (g : GroupValue) (out a b c d : List ℕ) → a ≡ out ++ codes "group " → b ≡ a ++ decimal g.width → c ≡ b ++ fields (map (link_word names) g.links) → d ≡ c ++ codes "\n" → d ≡ out ++ line (group_words names g)
group_printed names g out a b c d one two three four = grind (arith, join_fields, append_assoc)

-- the first two lines, but for the names and the end of the second
abbrev pub front_text : Option PatternValue → List ℕ
front_text None = codes "topology 1\nnodes"
front_text (Some p) = codes "topology 2\nnodes"

front_is : (custom : Option PatternValue) → front_text custom ≡ line (header_words custom) ++ codes "nodes"
front_is None = refl
front_is (Some p) = refl

pub front_printed : (custom : Option PatternValue) (names : List (List ℕ)) (front out first second last : List ℕ) → front ≡ front_text custom → first ≡ out ++ front → second ≡ first ++ fields names → last ≡ second ++ codes "\n"
    → last ≡ out ++ text_of (header_words custom ∷ nodes_words names ∷ [])
front_printed custom names front out first second last is begun so_far ended = grind (arith, append-nil, join_fields, append_assoc, front_is)

pub holders_printed : (word : List ℕ) (g : ℕ) (names : List (List ℕ)) (out a b c d e : List ℕ) → a ≡ out ++ word → b ≡ a ++ codes " " → c ≡ b ++ decimal g → d ≡ c ++ fields names → e ≡ d ++ codes "\n" → e ≡ out ++ line (word ∷ decimal g ∷ names)
holders_printed word g names out a b c d e one two three four five = grind (arith, join_fields, append_assoc)

-- one more of the numbers that pass a test
pub passing_more : (p : ℕ → Bool) (n : ℕ) → filter p (range_with_len 0 (n + 1)) ≡ filter p (range_with_len 0 n) ++ cond (p n) (n ∷ []) []
passing_more p n =
    ap (filter p) (sym (map-id (range_with_len 0 (n + 1)))) ∙ filter_of_map_range_with_len_more p (λ k. k) 0 n n (omega arith) ∙ ap (λ r. filter p r ++ cond (p n) (n ∷ []) []) (map-id (range_with_len 0 n))

-- what a node's name adds behind those of the nodes before it
pub name_more : (names : List (List ℕ)) (p : ℕ → Bool) (n : ℕ) → p n ≡ true → fields (map (name_at names) (filter p (range_with_len 0 (n + 1)))) ≡ fields (map (name_at names) (filter p (range_with_len 0 n))) ++ (32 ∷ name_at names n)
name_more names p n passes = grind (arith, passing_more, map-append, flat_map-append, append-nil)

pub name_skipped : (p : ℕ → Bool) (n : ℕ) → p n ≡ false → filter p (range_with_len 0 (n + 1)) ≡ filter p (range_with_len 0 n)
name_skipped p n fails = grind (arith, passing_more, append-nil)

-- the two lines of a chunk
abbrev pub chunk_lines : List (List ℕ) → PatternValue → ℕ → List (List (List ℕ))
chunk_lines names p g = holder_words names (codes "before") p.before g ∷ holder_words names (codes "after") p.after g ∷ []

pub chunk_more : (names : List (List ℕ)) (p : PatternValue) (n : ℕ) → text_of (flat_map (chunk_lines names p) (range_with_len 0 (n + 1))) ≡ text_of (flat_map (chunk_lines names p) (range_with_len 0 n)) ++ (line (holder_words names (codes "before") p.before n) ++ line (holder_words names (codes "after") p.after n))
chunk_more names p n =
    let before = range_with_len 0 n in
    let all : range_with_len 0 (n + 1) ≡ before ++ n ∷ [] = sym (map-id (range_with_len 0 (n + 1))) ∙ map-range_with_len_more (λ k. k) 0 n n (omega arith) ∙ ap (λ r. r ++ n ∷ []) (map-id before) in
    let second : List ℕ = line (holder_words names (codes "after") p.after n) in
    ap (λ r. text_of (flat_map (chunk_lines names p) r)) all ∙ ap text_of (flat_map-append (chunk_lines names p) before (n ∷ []))
    ∙ flat_map-append line (flat_map (chunk_lines names p) before) (chunk_lines names p n)
    ∙ ap (λ r. text_of (flat_map (chunk_lines names p) before) ++ (line (holder_words names (codes "before") p.before n) ++ r)) (append-nil second)

-- the lines of a text one after the other
pub spelling_is : (t : NamedTopologyValue) → text_of (header_words t.custom ∷ nodes_words t.names ∷ []) ++ (text_of (map (group_words t.names) t.topology.groups) ++ text_of (custom_lines t.names t.custom)) ≡ spelling t
unfolding spelling
spelling_is t = grind (arith, nat_tests, common_steps, flat_map-append)

-- a topology that was printed in three pieces, of which the last may be lacking
pub topology_printed : (t : NamedTopologyValue) (first second last : List ℕ) → first ≡ text_of (header_words t.custom ∷ nodes_words t.names ∷ []) → second ≡ first ++ text_of (map (group_words t.names) t.topology.groups)
    → last ≡ second ++ text_of (custom_lines t.names t.custom) → last ≡ spelling t
topology_printed t first second last begun so_far ended = grind (arith, append_assoc, spelling_is)

pub plain_printed : (t : NamedTopologyValue) (first last : List ℕ) → first ≡ text_of (header_words t.custom ∷ nodes_words t.names ∷ []) → last ≡ first ++ text_of (map (group_words t.names) t.topology.groups) → t.custom ≡ None → last ≡ spelling t
plain_printed t first last begun ended none = grind (arith, append-nil, topology_printed t first last last begun ended)

-- ---- what stays in front where memory runs out

pub kept_same : (new old : List ℕ) → new ≡ old → StartsWith new old
kept_same new old e = ap (take (length old)) e ∙ take_all (length old) old (omega arith)
