-- Patterns: what is read stands there, and what stands there is read.
use Rattle.std.proofs.{Common.{◌≡◌, ℕ, zero, suc, ◌+◌, ◌≤◌, Bool, true, false, List, [], ◌∷◌, ◌++◌, map, length, drop, Option, None, Some, Ok, refl, sym, ap, ◌∙◌, subst, arith, codes, IfSome}, lemmas.List.length-map}
use Rattle.std.specs.{Option.is_some, List.{AllByRecursion, flat_map, range_with_len}}
use Rattle.text_lines.specs.{Text.{Row, Place}, Check.line_part}
use Rattle.text_lines.proofs.{Gives.{gives_done, gives_then, Between, here, then_on, Cut, cut_here, cut_on, Took, Stops, GivesPart}, ReadBack.{Reads, reads_here, reads_as, reads_then, line_again, Ends}, Repeated.place}
use Rattle.text_lines.proofs.{Rows.{AreTokens, row_of}, Words.tokens_from}
use Rattle.schedule.specs.Placed.{PlacementValue, holds}
use Rattle.collective_spec.specs.Patterns.{PatternValue, IsPattern}
use Rattle.topology_text.specs.{Spelling.{holder_words, custom_lines}, Reading.{custom_line, Pairs, holders_at, pattern_of, pattern_at}}
use Rattle.topology_text.proofs.{Front.Names, PatternLines.{base_words, base_are_words, IsBase, custom_gives, custom_again, named_words}}
use Rattle.topology_text.proofs.Held.{EachAscends, pairs_from, nodes_with, held_by, held_ascends, placement_from, rows_held, rows_placement, placement_rows}
use Rattle.topology_text.proofs.HolderLines.{Holders, befores, afters, AreHeld, befores_ascend, afters_ascend, holder_lines, holder_lines_are_words, with_holders, no_pairs, nothing_held, nothing_valid, holders_give, holders_read}

-- ---- the pattern of these chunks

abbrev pub pattern_from : ℕ → ℕ → List Holders → PatternValue
pattern_from base nodes hs = pattern_of base nodes (with_holders no_pairs 0 hs)

pub pattern_valid : (base nodes : ℕ) (hs : List Holders) → length hs ≡ base → 1 ≤ base → base ≤ 16 → AreHeld nodes hs → IsPattern nodes (pattern_from base nodes hs)
pattern_valid base nodes hs many some few held = grind (arith, rows_placement, befores, length-map, befores_ascend, afters, afters_ascend)

-- who holds the chunks of two placements
abbrev held_in : PlacementValue → PlacementValue → ℕ → ℕ → List Holders
held_in p q g zero = []
held_in p q g (suc len) = (nodes_with (holds p) p.nodes g, nodes_with (holds q) q.nodes g) ∷ held_in p q (g + 1) len

length-held_in : (p q : PlacementValue) (g len : ℕ) → length (held_in p q g len) ≡ len
length-held_in p q g zero = refl
length-held_in p q g (suc len) = ap suc (length-held_in p q (g + 1) len)

both_in : (p q : PlacementValue) (g len : ℕ) → (befores (held_in p q g len) ≡ held_by (holds p) p.nodes g len) × (afters (held_in p q g len) ≡ held_by (holds q) q.nodes g len)
both_in p q g zero = (refl, refl)
both_in p q g (suc len) = let rest = both_in p q (g + 1) len in (ap (λ x. nodes_with (holds p) p.nodes g ∷ x) rest.0, ap (λ x. nodes_with (holds q) q.nodes g ∷ x) rest.1)

both_held : (nodes : ℕ) (hs : List Holders) → EachAscends nodes (befores hs) → EachAscends nodes (afters hs) → AreHeld nodes hs
both_held nodes [] one two = tt
both_held nodes (h ∷ hs) one two = ((one.0, two.0), both_held nodes hs one.1 two.1)

-- each pattern is that of its chunks
pub record PatternHeld (nodes : ℕ) (p : PatternValue) : Type 0 where
  pub held : List Holders
  pub many : length held ≡ p.base
  pub valid : AreHeld nodes held
  pub is : p ≡ pattern_from p.base nodes held

pub pattern_held : (nodes : ℕ) (p : PatternValue) → IsPattern nodes p → PatternHeld nodes p
pattern_held nodes p ok =
    let hs = held_in p.before p.after 0 p.base in
    let here = both_in p.before p.after 0 p.base in
    let one = subst (λ (n : ℕ). EachAscends n (befores hs)) ok.before_nodes (subst (EachAscends p.before.nodes) (sym here.0) (held_ascends (holds p.before) p.before.nodes 0 p.base)) in
    let two = subst (λ (n : ℕ). EachAscends n (afters hs)) ok.after_nodes (subst (EachAscends p.after.nodes) (sym here.1) (held_ascends (holds p.after) p.after.nodes 0 p.base)) in
    let before : p.before.pairs ≡ pairs_from 0 (befores hs) = placement_rows p.before ok.before ∙ ap (λ c. pairs_from 0 (held_by (holds p.before) p.before.nodes 0 c)) ok.before_chunks ∙ ap (pairs_from 0) (sym here.0) in
    let after : p.after.pairs ≡ pairs_from 0 (afters hs) = placement_rows p.after ok.after ∙ ap (λ c. pairs_from 0 (held_by (holds p.after) p.after.nodes 0 c)) ok.after_chunks ∙ ap (pairs_from 0) (sym here.1) in
    record {
      held = hs;
      many = length-held_in p.before p.after 0 p.base;
      valid = both_held nodes hs one two;
      is = λ i. record {
        base = p.base;
        before = record { chunks = ok.before_chunks i; nodes = ok.before_nodes i; pairs = before i };
        after = record { chunks = ok.after_chunks i; nodes = ok.after_nodes i; pairs = after i };
      };
    }

-- the lines of placements that hold these chunks so
lines_spelled : (names : List (List ℕ)) (p q : PlacementValue) (g : ℕ) (hs : List Holders) → held_by (holds p) p.nodes g (length hs) ≡ befores hs → held_by (holds q) q.nodes g (length hs) ≡ afters hs
    → flat_map (λ k. holder_words names (codes "before") p k ∷ holder_words names (codes "after") q k ∷ []) (range_with_len g (length hs)) ≡ holder_lines names g hs
lines_spelled names p q g [] one two = refl
lines_spelled names p q g (h ∷ hs) one two = grind (arith, nodes_with, named_words, lines_spelled names p q (g + 1) hs (ap (drop 1) one) (ap (drop 1) two))

pub pattern_spelled : (names : List (List ℕ)) (base nodes : ℕ) (hs : List Holders) → length hs ≡ base → AreHeld nodes hs → custom_lines names (Some (pattern_from base nodes hs)) ≡ base_words base ∷ holder_lines names 0 hs
pattern_spelled names base nodes hs many held =
    let p = placement_from base nodes (befores hs) in
    let q = placement_from base nodes (afters hs) in
    let one = ap (held_by (holds p) nodes 0) (sym (length-map hs (λ h. h.0))) ∙ rows_held base nodes (befores hs) (length-map hs (λ h. h.0) ∙ many) (befores_ascend nodes hs held) in
    let two = ap (held_by (holds q) nodes 0) (sym (length-map hs (λ h. h.1))) ∙ rows_held base nodes (afters hs) (length-map hs (λ h. h.1) ∙ many) (afters_ascend nodes hs held) in
    ap (λ n. base_words base ∷ flat_map (λ k. holder_words names (codes "before") p k ∷ holder_words names (codes "after") q k ∷ []) (range_with_len 0 n)) (sym many)
    ∙ ap (λ r. base_words base ∷ r) (lines_spelled names p q 0 hs one two)

-- ---- a pattern at a place

pub lines_valid : (names : List (List ℕ)) (p : Place) (base : ℕ) (q : Place) (found : Pairs) (rest : Place) (count : ℕ) → line_part custom_line p ≡ Ok (base, q) → holders_at names base 0 no_pairs q ≡ Ok (found, rest) → length names ≡ count → IsPattern count (pattern_of base count found)
lines_valid names p base q found rest count e1 e2 same =
    let head = ((custom_gives p).ok (base, q) e1).0 in
    let taken = (holders_give names base 0 no_pairs q).ok (found, rest) e2 in
    subst (λ (n : ℕ). IsPattern n (pattern_of base n found)) same
    (subst (λ (f : Pairs). IsPattern (length names) (pattern_of base (length names) f)) (sym taken.pairs) (pattern_valid base (length names) taken.held taken.many head.some head.few taken.valid))

-- a valid pattern, where one is due, and else none
pub record IsCustom (names : List (List ℕ)) (patterned : Bool) (custom : Option PatternValue) : Type 0 where
  pub shown : is_some custom ≡ patterned
  pub valid : IfSome custom (IsPattern (length names))

-- a pattern of so many chunks
pattern_cut : (names : List (List ℕ)) (base : ℕ) (hs : List Holders) (p : Place) (n : ℕ) → length hs ≡ base → IsBase base → AreHeld (length names) hs → Cut (base_words base ∷ holder_lines names 0 hs) p n → Stops (custom_lines names) (IsCustom names true) p n
pattern_cut names base hs p n many is held cut = record {
  value = Some (pattern_from base (length names) hs);
  valid = record { shown = refl; valid = pattern_valid base (length names) hs many is.some is.few held };
  cut = subst (λ (lines : List (List (List ℕ))). Cut lines p n) (sym (pattern_spelled names base (length names) hs many held)) cut;
}

-- any pattern, where one is due at this line
pub some_pattern : (patterned : Bool) (names : List (List ℕ)) (p : Place) (n : ℕ) → n ≡ p.number → Stops (custom_lines names) (IsCustom names patterned) p n
some_pattern false names p n line = record { value = None; valid = record { shown = refl; valid = tt }; cut = cut_here [] p n line }
some_pattern true names p n line = pattern_cut names 1 (nothing_held 1) p n refl (record { some = omega arith; few = omega arith }) (nothing_valid (length names) 1) (cut_here (base_words 1 ∷ holder_lines names 0 (nothing_held 1)) p n line)

pub pattern_gives : (patterned : Bool) (names : List (List ℕ)) (p : Place) → GivesPart (custom_lines names) (IsCustom names patterned) p (pattern_at patterned names p)
unfolding pattern_at
pattern_gives false names p = gives_done (None, p) (record { valid = record { shown = refl; valid = tt }; lines = here p })
pattern_gives true names p =
    gives_then _ _ (custom_gives p) (λ e line. some_pattern true names p e.1 line)
    (λ base rb tb. gives_then _ _ (holders_give names base.0 0 no_pairs base.1)
    (λ e f. pattern_cut names base.0 f.held p e.1 f.many tb.0 f.valid (cut_on (base_words base.0 ∷ []) (holder_lines names 0 f.held) p base.1 e.1 tb.1 f.cut))
    (λ found rf t.
    let P : Pairs → Type 0 = λ f. Took (custom_lines names) (IsCustom names true) p (Some (pattern_of base.0 (length names) f), found.1) in
    let lines = then_on (base_words base.0 ∷ []) (holder_lines names 0 t.held) p base.1 found.1 tb.1 t.lines in
    gives_done _ (subst P (sym t.pairs) (record {
      valid = record { shown = refl; valid = pattern_valid base.0 (length names) t.held t.many tb.0.some tb.0.few t.valid };
      lines = subst (λ (ls : List (List (List ℕ))). Between ls p found.1) (sym (pattern_spelled names base.0 (length names) t.held t.many t.valid)) lines;
    }))))

-- its lines are those of its chunks
pattern_lines : (names : List (List ℕ)) (p : PatternValue) (h : PatternHeld (length names) p) → custom_lines names (Some p) ≡ base_words p.base ∷ holder_lines names 0 h.held
pattern_lines names p h = ap (λ q. custom_lines names (Some q)) h.is ∙ pattern_spelled names p.base (length names) h.held h.many h.valid

pub pattern_reads : (names : List (List ℕ)) (custom : Option PatternValue) (n : ℕ) (rest : List Row) → Names names → IfSome custom (IsPattern (length names)) → Reads (pattern_at (is_some custom) names (place n (map row_of (custom_lines names custom) ++ rest))) custom rest
unfolding pattern_at
pattern_reads names None n rest ok valid = reads_here None n rest
pattern_reads names (Some p) n rest ok valid =
    let h = pattern_held (length names) p valid in
    let P : ℕ → Type 0 = λ many. (k : ℕ) → Reads (holders_at names many 0 no_pairs (place k (map row_of (holder_lines names 0 h.held) ++ rest))) (with_holders no_pairs 0 h.held) rest in
    let read = subst P h.many (λ k. holders_read names 0 h.held no_pairs k rest ok h.valid (omega (arith, h.many, valid.few))) in
    subst (λ (lines : List (List (List ℕ))). Reads (pattern_at true names (place n (map row_of lines ++ rest))) (Some p) rest) (sym (pattern_lines names p h))
    (reads_then _ _ (line_again custom_line (row_of (base_words p.base)) p.base n _ (custom_again p.base valid.some valid.few))
    (λ k. reads_then _ _ (read k) (λ m. reads_as _ (ap (λ q. Some q) (sym h.is)) (reads_here (Some (pattern_from p.base (length names) h.held)) m rest))))

pub custom_are_words : (names : List (List ℕ)) (custom : Option PatternValue) → Names names → IfSome custom (IsPattern (length names)) → AllByRecursion AreTokens (custom_lines names custom)
custom_are_words names None ok valid = tt
custom_are_words names (Some p) ok valid =
    let h = pattern_held (length names) p valid in
    subst (AllByRecursion AreTokens) (sym (pattern_lines names p h)) (
      tokens_from (base_words p.base) (omega arith) (base_are_words p.base valid.few),
      holder_lines_are_words names 0 h.held ok h.valid (omega (arith, h.many, valid.few)),
    )

-- no line of a pattern begins a group
pub pattern_ends : (names : List (List ℕ)) (custom : Option PatternValue) (rest : List Row) → Ends (codes "group ") rest → Ends (codes "group ") (map row_of (custom_lines names custom) ++ rest)
pattern_ends names None rest ends = ends
pattern_ends names (Some p) rest ends = refl
