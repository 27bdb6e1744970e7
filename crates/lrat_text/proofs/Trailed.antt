-- Words with a space behind each, and lines of them.
use Rattle.std.{proofs.{Common.{arith, ◌≡◌, ℕ, suc, ◌+◌, ◌<◌, List, [], ◌∷◌, ◌++◌, length, map, take, get_or, refl, sym, ap, ◌∙◌, append_assoc}, Math.Seq.take-suc, lemmas.{Grind.{common_steps, flat_map-append}, List.map-append}}, specs.List.{flat_map, join_with_byte}}
use Rattle.text_lines.specs.Text.{line}
use Rattle.lrat_text.specs.Printing.{trailed, closed}

pub trailed-append : (xs ys : List (List ℕ)) → trailed (xs ++ ys) ≡ trailed xs ++ trailed ys
trailed-append [] ys = refl
trailed-append (x ∷ xs) ys = ap (λ z. x ++ 32 ∷ [] ++ z) (trailed-append xs ys) ∙ sym (append_assoc (x ++ 32 ∷ []) (trailed xs) (trailed ys))

-- the words of a line, the last without a space
pub joined : (words : List (List ℕ)) (last : List ℕ) → join_with_byte 32 (words ++ last ∷ []) ≡ trailed words ++ last
joined (w ∷ next ∷ words) last =
    ap (λ z. w ++ 32 ∷ z) (joined (next ∷ words) last) ∙ sym (append_assoc (w ++ 32 ∷ []) (trailed (next ∷ words)) last ∙ append_assoc w (32 ∷ []) (trailed (next ∷ words) ++ last))
joined words last = grind (arith, common_steps)

pub line_closed : (words : List (List ℕ)) → line (closed words) ≡ trailed words ++ 48 ∷ 10 ∷ []
line_closed words = ap (λ z. z ++ 10 ∷ []) (joined words (48 ∷ [])) ∙ append_assoc (trailed words) (48 ∷ []) (10 ∷ [])

trailed-closed : (words : List (List ℕ)) → trailed (closed words) ≡ trailed words ++ 48 ∷ 32 ∷ []
trailed-closed words = trailed-append words ((48 ∷ []) ∷ [])

pub addition_text : (out id : List ℕ) (lits hints : List (List ℕ)) → out ++ id ++ 32 ∷ [] ++ trailed lits ++ 48 ∷ 32 ∷ [] ++ trailed hints ++ 48 ∷ 10 ∷ [] ≡ out ++ line (id ∷ closed lits ++ closed hints)
addition_text out id lits hints =
    let end = 48 ∷ 10 ∷ [] in
    let whole : line (id ∷ closed lits ++ closed hints) ≡ id ++ 32 ∷ [] ++ (trailed lits ++ 48 ∷ 32 ∷ []) ++ trailed hints ++ end =
    ap line (sym (append_assoc (id ∷ closed lits) hints ((48 ∷ []) ∷ []))) ∙ line_closed (id ∷ closed lits ++ hints)
    ∙ ap (λ z. z ++ end) (trailed-append (id ∷ closed lits) hints ∙ ap (λ z. id ++ 32 ∷ [] ++ z ++ trailed hints) (trailed-closed lits)) in
    rw whole (simp append_assoc)

pub deletion_text : (out id : List ℕ) (ids : List (List ℕ)) → out ++ id ++ 32 ∷ 100 ∷ 32 ∷ [] ++ trailed ids ++ 48 ∷ 10 ∷ [] ≡ out ++ line (id ∷ (100 ∷ []) ∷ closed ids)
deletion_text out id ids =
    let whole : line (id ∷ (100 ∷ []) ∷ closed ids) ≡ id ++ 32 ∷ [] ++ (100 ∷ 32 ∷ [] ++ trailed ids) ++ 48 ∷ 10 ∷ [] = line_closed (id ∷ (100 ∷ []) ∷ ids) in
    rw whole (simp append_assoc)

pub clause_text : (out : List ℕ) (words : List (List ℕ)) → out ++ trailed words ++ 48 ∷ 10 ∷ [] ≡ out ++ line (closed words)
clause_text out words = append_assoc out (trailed words) (48 ∷ 10 ∷ []) ∙ ap (λ z. out ++ z) (sym (line_closed words))

-- what is made of one element more stands at the end
pub one_more : {A B : Type 0} (f : B → List ℕ) (g : A → B) (start was now : List ℕ) (xs : List A) (i : ℕ) (d : A) → i < length xs → was ≡ start ++ flat_map f (map g (take i xs)) → now ≡ was ++ flat_map f (g (get_or xs i d) ∷ []) → now ≡ start ++ flat_map f (map g (take (i + 1) xs))
one_more f g start was now xs i d within done more = let next : i + 1 ≡ suc i = omega arith in let front = map g (take i xs) in let last = g (get_or xs i d) ∷ [] in
    let grown : map g (take (i + 1) xs) ≡ front ++ last = ap (λ n. map g (take n xs)) next ∙ ap (map g) (take-suc xs i d within) ∙ map-append g (take i xs) (get_or xs i d ∷ []) in
    more ∙ ap (λ z. z ++ flat_map f last) done ∙ append_assoc start (flat_map f front) (flat_map f last) ∙ ap (λ z. start ++ z) (sym (ap (flat_map f) grown ∙ flat_map-append f front last))
