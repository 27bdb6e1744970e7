-- What the printer of programs appends is their text.
use Rattle.std.proofs.Common.{◌≡◌, ℕ, ◌+◌, ◌<◌, ◌≤◌, List, [], ◌∷◌, ◌++◌, length, map, get_or, take, sym, ap, ◌∙◌, append_assoc, arith, codes, decimal}
use Rattle.std.{specs.List.{flat_map, zip}, proofs.lemmas.{Grind.flat_map-append, List.{append-nil, take_all, take_more}, Slice.Zip.{get_or-zip, length-zip}}}
use Rattle.text_lines.specs.Text.{line, text_of}
use Rattle.node_programs.specs.{declared.op.Op.Op, Printing.{node_lines, op_words, programs_text}}

pub node_is : (names : List (List ℕ)) (name : List ℕ) (ops : List Op) → codes "node " ++ (name ++ (codes "\n" ++ text_of (map (op_words names) ops))) ≡ text_of (node_lines names (name, ops))
node_is names name ops = ap (λ t. codes "node " ++ t) (sym (append_assoc name (10 ∷ []) (text_of (map (op_words names) ops))))

-- the lines of the first so many nodes
abbrev pub first_nodes : List (List ℕ) → List (List Op) → ℕ → List ℕ
first_nodes names programs n = text_of (flat_map (node_lines names) (take n (zip names programs)))

pub nodes_more : (names : List (List ℕ)) (programs : List (List Op)) (n : ℕ) (name : List ℕ) (ops : List Op) → length names ≡ length programs → n < length programs
    → name ≡ get_or names n name → ops ≡ get_or programs n ops → first_nodes names programs (n + 1) ≡ first_nodes names programs n ++ text_of (node_lines names (name, ops))
nodes_more names programs n name ops same inside is_name is_ops =
    let within : n < length (zip names programs) = omega (arith, length-zip names programs) in
    let before = take n (zip names programs) in
    let here : get_or (zip names programs) n (name, ops) ≡ (name, ops) = get_or-zip names programs n (name, ops) (omega arith) inside ∙ both (sym is_name) (sym is_ops) in
    ap (λ nodes. text_of (flat_map (node_lines names) nodes)) (take_more (zip names programs) n (name, ops) within ∙ ap (λ (p : List ℕ × List Op). before ++ p ∷ []) here)
    ∙ ap text_of (flat_map-append (node_lines names) before ((name, ops) ∷ []))
    ∙ flat_map-append line (flat_map (node_lines names) before) (flat_map (node_lines names) ((name, ops) ∷ []))
    ∙ ap (λ ls. first_nodes names programs n ++ text_of ls) (append-nil (node_lines names (name, ops)))
  where
    both : {a b : List ℕ} {c d : List Op} → a ≡ b → c ≡ d → ◌≡◌ {A = List ℕ × List Op} (a, c) (b, d)
    both {a} {b} {c} {d} p q = let P : List ℕ → List ℕ × List Op = λ x. (x, c) in let Q : List Op → List ℕ × List Op = λ y. (b, y) in ap P p ∙ ap Q q

pub nodes_all : (names : List (List ℕ)) (programs : List (List Op)) (n : ℕ) → length names ≡ length programs → length programs ≤ n → first_nodes names programs n ≡ text_of (flat_map (node_lines names) (zip names programs))
nodes_all names programs n same past = grind (arith, take_all, length-zip)

pub text_is : (point : ℕ) (names : List (List ℕ)) (programs : List (List Op)) → (codes "programs " ++ (decimal point ++ codes "\n")) ++ (text_of (flat_map (node_lines names) (zip names programs)) ++ codes "end\n") ≡ programs_text point names programs
unfolding programs_text
text_is point names programs = grind (arith, flat_map-append)
