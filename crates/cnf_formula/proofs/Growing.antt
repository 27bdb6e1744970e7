-- A formula that grows clause by clause, in a loop.
use Rattle.std.proofs.{Common.{◌≡◌, ℕ, zero, ◌+◌, List, [], ◌∷◌, ◌++◌, map, length, get_or, take, ◌<◌, ◌≤◌, refl, sym, ap, ◌∙◌, arith, append_assoc, flat_map}, lemmas.List.{append-nil, map-append, take_more, take_all, Folds.flat_map-map}}
use Rattle.std.{proofs.lemmas.List.{Concat.{flat_map-append, flat_map_single}, FromFn.{map-range_with_len_more, length-enumerate_from, get_or-enumerate_from}}, specs.List.{range_with_len, enumerate_from}}
use Rattle.list_laws.proofs.Ranges.{flat_map-range_more}
use Rattle.cnf_formula.specs.{Literals.LitValue, Formulas.{FormulaValue, with_clauses}}

-- one more turn of a loop over a range
pub grows_more : (old before after : FormulaValue) (g : ℕ → List (List LitValue)) (a n j : ℕ) → a + n ≡ j
    → before ≡ with_clauses old (flat_map g (range_with_len a n)) → after ≡ with_clauses before (g j) → after ≡ with_clauses old (flat_map g (range_with_len a (n + 1)))
grows_more old before after g a n j e b f =
    let make : List (List LitValue) → FormulaValue = λ cs. record { vars = old.vars; clauses = cs } in
    f ∙ ap (λ x. with_clauses x (g j)) b ∙ ap make (append_assoc old.clauses (flat_map g (range_with_len a n)) (g j) ∙ ap (λ r. old.clauses ++ r) (sym (flat_map-range_more g a n j e)))

-- one more turn of a loop that pushes to a list
pub pushes_more : {X : Type 0} (before after : List X) (f : ℕ → X) (a n j : ℕ) → a + n ≡ j → before ≡ map f (range_with_len a n) → after ≡ before ++ f j ∷ [] → after ≡ map f (range_with_len a (n + 1))
pushes_more before after f a n j e b p = p ∙ ap (λ x. x ++ f j ∷ []) b ∙ sym (map-range_with_len_more f a n j e)

more_of : {X A : Type 0} (g : X → List A) (xs : List X) (i : ℕ) (d : X) → i < length xs → flat_map g (take (i + 1) xs) ≡ flat_map g (take i xs) ++ g (get_or xs i d)
more_of g xs i d low = ap (flat_map g) (take_more xs i d low) ∙ flat_map-append g (take i xs) (get_or xs i d ∷ []) ∙ ap (λ r. flat_map g (take i xs) ++ r) (append-nil (g (get_or xs i d)))

-- one more turn of a loop over a list
pub grows_along : {X : Type 0} (old before after : FormulaValue) (g : X → List (List LitValue)) (xs : List X) (i : ℕ) (d : X) → i < length xs
    → before ≡ with_clauses old (flat_map g (take i xs)) → after ≡ with_clauses before (g (get_or xs i d)) → after ≡ with_clauses old (flat_map g (take (i + 1) xs))
grows_along old before after g xs i d low b f =
    let make : List (List LitValue) → FormulaValue = λ cs. record { vars = old.vars; clauses = cs } in
    f ∙ ap (λ y. with_clauses y (g (get_or xs i d))) b ∙ ap make (append_assoc old.clauses (flat_map g (take i xs)) (g (get_or xs i d)) ∙ ap (λ r. old.clauses ++ r) (sym (more_of g xs i d low)))

-- the same where each element gives one clause
pub grows_each : {X : Type 0} (old before after : FormulaValue) (g : X → List LitValue) (xs : List X) (i : ℕ) (d : X) → i < length xs
    → before ≡ with_clauses old (map g (take i xs)) → after ≡ with_clauses before (g (get_or xs i d) ∷ []) → after ≡ with_clauses old (map g (take (i + 1) xs))
grows_each old before after g xs i d low b f =
    let more : map g (take (i + 1) xs) ≡ map g (take i xs) ++ g (get_or xs i d) ∷ [] = ap (map g) (take_more xs i d low) ∙ map-append g (take i xs) (get_or xs i d ∷ []) in
    let make : List (List LitValue) → FormulaValue = λ cs. record { vars = old.vars; clauses = cs } in
    f ∙ ap (λ y. with_clauses y (g (get_or xs i d) ∷ [])) b ∙ ap make (append_assoc old.clauses (map g (take i xs)) (g (get_or xs i d) ∷ []) ∙ ap (λ r. old.clauses ++ r) (sym more))

-- the same over a list whose elements have their numbers
pub grows_numbered : {X : Type 0} (old before after : FormulaValue) (g : ℕ × X → List (List LitValue)) (xs : List X) (i : ℕ) (d : X) → i < length xs
    → before ≡ with_clauses old (flat_map g (take i (enumerate_from 0 xs))) → after ≡ with_clauses before (g (i, get_or xs i d)) → after ≡ with_clauses old (flat_map g (take (i + 1) (enumerate_from 0 xs)))
grows_numbered old before after g xs i d low b f =
    let all = enumerate_from 0 xs in
    let at : get_or all i (0, d) ≡ (0 + i, get_or xs i d) = get_or-enumerate_from 0 xs i (0, d) low in
    let zero : 0 + i ≡ i = omega arith in
    let same : g (i, get_or xs i d) ≡ g (get_or all i (0, d)) = ap g (sym (at ∙ ap (λ n. (n, get_or xs i d)) zero)) in
    grows_along old before after g all i (0, d) (omega (arith, low, length-enumerate_from 0 xs)) b (f ∙ ap (with_clauses before) same)

-- such a loop at its end
pub grown_numbered : {X : Type 0} (old last : FormulaValue) (g : ℕ × X → List (List LitValue)) (xs ys : List X) (n : ℕ) → xs ≡ ys → length xs ≤ n
    → last ≡ with_clauses old (flat_map g (take n (enumerate_from 0 xs))) → last ≡ with_clauses old (flat_map g (enumerate_from 0 ys))
grown_numbered old last g xs ys n same all e =
    let few : length (enumerate_from 0 xs) ≤ n = omega (arith, all, length-enumerate_from 0 xs) in
    e ∙ ap (λ zs. with_clauses old (flat_map g zs)) (take_all n (enumerate_from 0 xs) few) ∙ ap (λ zs. with_clauses old (flat_map g (enumerate_from 0 zs))) same

-- one more turn of a loop over a range whose turns give one clause each
pub grows_by_one : (old before after : FormulaValue) (g : ℕ → List LitValue) (a n j : ℕ) → a + n ≡ j
    → before ≡ with_clauses old (map g (range_with_len a n)) → after ≡ with_clauses before (g j ∷ []) → after ≡ with_clauses old (map g (range_with_len a (n + 1)))
grows_by_one old before after g a n j e b f =
    grows_more old before after (λ x. g x ∷ []) a n j e (b ∙ ap (with_clauses old) (sym (flat_map_single g (range_with_len a n)))) f
    ∙ ap (with_clauses old) (flat_map_single g (range_with_len a (n + 1)))

-- pairs, by their first number
pub flat_map-pairs : {X : Type 0} (g : ℕ × ℕ → List X) (cs ns : List ℕ) → flat_map g (flat_map (λ c. map (λ n. (c, n)) ns) cs) ≡ flat_map (λ c. flat_map (λ n. g (c, n)) ns) cs
flat_map-pairs g [] ns = refl
flat_map-pairs g (c ∷ cs) ns =
    flat_map-append g (map (λ n. (c, n)) ns) (flat_map (λ c. map (λ n. (c, n)) ns) cs)
    ∙ ap (λ r. r ++ flat_map g (flat_map (λ c. map (λ n. (c, n)) ns) cs)) (flat_map-map g (λ n. (c, n)) ns)
    ∙ ap (λ r. flat_map (λ n. g (c, n)) ns ++ r) (flat_map-pairs g cs ns)

-- one more turn of a loop over a list that pushes a value for each element
pub pushes_along : {X Y : Type 0} (old before after : List Y) (f : X → Y) (xs : List X) (i : ℕ) (d : X) → i < length xs
    → before ≡ old ++ map f (take i xs) → after ≡ before ++ f (get_or xs i d) ∷ [] → after ≡ old ++ map f (take (i + 1) xs)
pushes_along old before after f xs i d low b a =
    let more : map f (take (i + 1) xs) ≡ map f (take i xs) ++ f (get_or xs i d) ∷ [] = ap (map f) (take_more xs i d low) ∙ map-append f (take i xs) (get_or xs i d ∷ []) in
    a ∙ ap (λ r. r ++ f (get_or xs i d) ∷ []) b ∙ append_assoc old (map f (take i xs)) (f (get_or xs i d) ∷ []) ∙ ap (λ r. old ++ r) (sym more)

-- one more turn of a loop over a range that appends a list
pub appends_more : {X : Type 0} (before after : List X) (g : ℕ → List X) (a n j : ℕ) → a + n ≡ j
    → before ≡ flat_map g (range_with_len a n) → after ≡ before ++ g j → after ≡ flat_map g (range_with_len a (n + 1))
appends_more before after g a n j e b f = f ∙ ap (λ r. r ++ g j) b ∙ sym (flat_map-range_more g a n j e)
