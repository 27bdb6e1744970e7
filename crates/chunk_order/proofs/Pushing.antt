-- Loops that push the clauses of the order.
use Rattle.std.proofs.{Common.{◌≡◌, ℕ, zero, suc, ◌+◌, ◌-◌, ◌<◌, ◌≤◌, Bool, cond, List, [], ◌∷◌, ◌++◌, length, get_or, refl, sym, ap, ◌∙◌, subst, arith, All, filter, flat_map}, lemmas.List.Elements.All-from_recursion}
use Rattle.std.specs.List.{range_with_len}
use Rattle.schedule.{specs.Placed.PlacementValue, proofs.First.each_filter}
use Rattle.send_encoding.specs.Variables.{arrivals, sends}
use Rattle.round_encoding.{specs.{declared.encoding.Encoding.Encoding, Frames.{frame_of, own_variables}, Rounding.{counts_in, encoding_of}}, proofs.Counted.more_variables}
use Rattle.chunk_order.{specs.{Alike.is_alike, Ordering.{class_of, next_pairs}, Solutions.IsEncodingFor}, proofs.Classes.range_high}

-- ---- next pairs by their places

shifted : {X : Type 0} (f h : ℕ → List X) (a m : ℕ) → ((k : ℕ) → a ≤ k → f (k + 1) ≡ h k) → flat_map f (range_with_len (a + 1) m) ≡ flat_map h (range_with_len a m)
shifted f h a zero same = refl
shifted f h a (suc m) same = grind (arith, same a, shifted f h (a + 1) m (λ k low. same k (omega (arith, low))))

pub nexts_by_place : {X : Type 0} (g : ℕ × ℕ → List X) (cs : List ℕ) (n : ℕ) → n ≡ length cs - 1 → flat_map g (next_pairs cs) ≡ flat_map (λ k. g (get_or cs (k - 1) 0, get_or cs k 0)) (range_with_len 1 n)
nexts_by_place g [] n is = grind arith
nexts_by_place g (c ∷ []) n is = grind arith
nexts_by_place {X = X} g (c ∷ d ∷ ds) n is =
    let whole : List ℕ = c ∷ d ∷ ds in
    let f : ℕ → List X = λ k. g (get_or whole (k - 1) 0, get_or whole k 0) in
    let h : ℕ → List X = λ k. g (get_or (d ∷ ds) (k - 1) 0, get_or (d ∷ ds) k 0) in
    let up : n ≡ suc (length ds) = omega (arith, is) in
    let rest : flat_map g (next_pairs (d ∷ ds)) ≡ flat_map h (range_with_len 1 (length ds)) = nexts_by_place g (d ∷ ds) (length ds) (omega arith) in
    let later : flat_map f (range_with_len (1 + 1) (length ds)) ≡ flat_map h (range_with_len 1 (length ds)) =
    shifted f h 1 (length ds) (λ k low.
    let before : k + 1 - 1 ≡ suc (k - 1) = omega (arith, low) in
    let here : k + 1 ≡ suc k = omega arith in
    ap (λ v. g (get_or whole v 0, get_or whole (k + 1) 0)) before ∙ ap (λ v. g (get_or (d ∷ ds) (k - 1) 0, get_or whole v 0)) here) in
    ap (λ xs. g (c, d) ++ xs) (rest ∙ sym later) ∙ sym (ap (λ m. flat_map f (range_with_len 1 m)) up)

-- ---- the chunks of a class are in range

pub class_below : (pre post : PlacementValue) (c chunks : ℕ) → pre.chunks ≡ chunks → All (λ d. d < chunks) (class_of pre post c)
class_below pre post c chunks is =
    subst (λ n. All (λ d. d < n) (class_of pre post c)) is
    (All-from_recursion (λ d. d < pre.chunks) (class_of pre post c) (each_filter (λ d. d < pre.chunks) (is_alike pre post c) (range_with_len 0 pre.chunks) (range_high 0 pre.chunks pre.chunks (omega arith))))

-- ---- what is picked, and what is left out

pub flat_filter : {X Y : Type 0} (p : X → Bool) (g : X → List Y) (xs : List X) → flat_map g (filter p xs) ≡ flat_map (λ x. cond (p x) (g x) []) xs
flat_filter p g [] = refl
flat_filter p g (x ∷ xs) = grind (arith, flat_filter p g xs)

-- ---- the variables of arrivals and sends are the formula's

pub own_within : (pre post : PlacementValue) (e : Encoding) (vars : ℕ) → IsEncodingFor pre post e → vars ≡ e.formula.vars → arrivals e.map + sends e.map ≤ vars
own_within pre post e vars is same =
    let f = frame_of is.topology pre is.steps is.rounds in
    let whole : e ≡ encoding_of is.topology pre post is.steps is.rounds = is.encodes.is in
    omega (arith, same, ap (λ (x : Encoding). arrivals x.map + sends x.map) whole, ap (λ (x : Encoding). x.formula.vars) whole, more_variables (own_variables f) (counts_in f is.topology))
