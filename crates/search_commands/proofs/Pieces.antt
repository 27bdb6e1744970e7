-- Pieces of the text, appended one after another.
use Rattle.std.proofs.{Common.{◌≡◌, ℕ, ◌+◌, Bool, true, false, List, [], ◌∷◌, ◌++◌, map, refl, sym, ap, ◌∙◌, append_assoc, arith, ⊎_elim, codes, filter, if◌then◌else◌}, lemmas.{Bool.cases_Bool, Grind.flat_map-append}}
use Rattle.std.{proofs.lemmas.List.{append-nil, map-append, map-id, Elements.filter-append, FromFn.map-range_with_len_more}, specs.List.{flat_map, range_with_len}}
use Rattle.text_lines.specs.Text.{line, text_of, fields}
use Rattle.outer_ports.specs.declared.part.Part.TheVariants.{Whole}
use Rattle.candidate_order.specs.Frontiers.{FrontierValue}
use Rattle.topology_text.specs.{Value.NamedTopologyValue, Spelling.name_at}
use Rattle.report_form.specs.{Reports.{WordsValue, question_of}, Spelling.{point_lines, refuted_words, synth_words, unknown_words}}
use Rattle.report_printing.{specs.Printed.point_text, proofs.Pieces.{line_is, text_append, text_each}}
use Rattle.node_cuts.specs.{declared.sets.Sets.Sets, Floors.floor_of, Sides.has_bit}
use Rattle.cut_bounds.specs.Parting.{cuts_among, uncut_among}
use Rattle.candidate_formula.specs.Searched.{searched_question}
use Rattle.run_rules.specs.{Bounds.{bound_text, floor_words}, Lines.cut_words}

-- ---- the names of a set

-- of the first so many nodes
abbrev pub names_below : List (List ℕ) → ℕ → ℕ → List (List ℕ)
names_below names nodes n = map (name_at names) (filter (has_bit nodes) (range_with_len 0 n))

range_more : (n : ℕ) → range_with_len 0 (n + 1) ≡ range_with_len 0 n ++ n ∷ []
range_more n = sym (map-id (range_with_len 0 (n + 1))) ∙ (map-range_with_len_more (λ x. x) 0 n n (omega arith) ∙ ap (λ xs. xs ++ n ∷ []) (map-id (range_with_len 0 n)))

pub names_more : (names : List (List ℕ)) (nodes n : ℕ) → fields (names_below names nodes (n + 1)) ≡ fields (names_below names nodes n) ++ (if has_bit nodes n then 32 ∷ name_at names n else [])
names_more names nodes n =
    let p : ℕ → Bool = has_bit nodes in
    let before : List ℕ = filter p (range_with_len 0 n) in
    let last : List ℕ = filter p (n ∷ []) in
    ap (λ xs. fields (map (name_at names) (filter p xs))) (range_more n)
    ∙ (ap (λ xs. fields (map (name_at names) xs)) (filter-append p (range_with_len 0 n) (n ∷ []))
    ∙ (ap fields (map-append (name_at names) before last)
    ∙ (flat_map-append (λ w. 32 ∷ w) (map (name_at names) before) (map (name_at names) last)
    ∙ ap (λ t. fields (map (name_at names) before) ++ t) one)))
  where
    one : fields (map (name_at names) (filter (has_bit nodes) (n ∷ []))) ≡ (if has_bit nodes n then 32 ∷ name_at names n else [])
    one =
        ⊎_elim
        (λ (set : has_bit nodes n ≡ true). rw set (append-nil (32 ∷ name_at names n)))
        (λ (clear : has_bit nodes n ≡ false). rw clear refl)
        (cases_Bool (has_bit nodes n))

-- ---- lines

-- a token, others, and then names
pub pieces_are : (word : List ℕ) (first second : List (List ℕ)) → word ++ (fields first ++ (fields second ++ codes "\n")) ≡ line (word ∷ (first ++ second))
pieces_are word first second =
    ap (λ t. word ++ t) (sym (append_assoc (fields first) (fields second) (codes "\n")) ∙ ap (λ t. t ++ codes "\n") (sym (flat_map-append (λ w. 32 ∷ w) first second)))
    ∙ line_is word (first ++ second)

-- ---- the whole text

pub bound_is : (w : WordsValue) (t : NamedTopologyValue) (sets : Sets) (f : FrontierValue)
    → codes "bound 1\n" ++ (line (synth_words t.names w) ++ (line (floor_words t.names (floor_of sets (searched_question (question_of w t Whole)).topology (searched_question (question_of w t Whole)).spec)) ++ (codes "frontier whole\n"
    ++ (flat_map (point_text t.names) f.points ++ (text_of (map (cut_words t.names) (cuts_among sets (searched_question (question_of w t Whole)) f.refuted)) ++ (text_of (map refuted_words (uncut_among sets (searched_question (question_of w t Whole)) f.refuted))
    ++ (text_of (map unknown_words f.unknown) ++ codes "end\n"))))))) ≡ bound_text w t sets f
unfolding bound_text
bound_is w t sets f = simp (text_append, text_each (point_lines t.names))
