-- How many marks are of one kind.
use Rattle.std.proofs.{Common.{suc, ◌≡◌, ℕ, ◌+◌, ◌<◌, List, [], ◌∷◌, length, get_or, set, cond, sym, ap, ◌∙◌, ⊎_elim, arith, eq-eqb, ◌≢◌, ◌==◌}, lemmas.Bool.{cases_Bool, cases_lt, ne_eqb, eqb-true}}
use Rattle.std.proofs.lemmas.List.{get_or-set_same, get_or-set_other, length-set, Sums.{sum_by-cons, sum_by-set, get_or-le-sum_by}}
use Rattle.conflict_analysis.specs.Met.{waiting}

abbrev one_if : ℕ → ℕ → ℕ
one_if mark m = cond {A = ℕ} (m == mark) 1 0

one_yes : (mark m : ℕ) → m ≡ mark → one_if mark m ≡ 1
one_yes mark m e = ap (λ b. cond {A = ℕ} b 1 0) (eq-eqb m mark e)

one_no : (mark m : ℕ) → m ≢ mark → one_if mark m ≡ 0
one_no mark m n = ap (λ b. cond {A = ℕ} b 1 0) (ne_eqb m mark n)

-- one more, one less, the same
pub waits_more : (mark : ℕ) (marks : List ℕ) (v y : ℕ) → v < length marks → get_or marks v 0 ≢ mark → y ≡ mark → waiting mark (set marks v y) ≡ waiting mark marks + 1
waits_more mark marks v y w n e = omega (arith, sum_by-set (one_if mark) marks v y 0 w, one_no mark (get_or marks v 0) n, one_yes mark y e)

pub waits_less : (mark : ℕ) (marks : List ℕ) (v y : ℕ) → v < length marks → get_or marks v 0 ≡ mark → y ≢ mark → waiting mark (set marks v y) + 1 ≡ waiting mark marks
waits_less mark marks v y w e n = omega (arith, sum_by-set (one_if mark) marks v y 0 w, one_yes mark (get_or marks v 0) e, one_no mark y n)

pub waits_same : (mark : ℕ) (marks : List ℕ) (v y : ℕ) → v < length marks → get_or marks v 0 ≢ mark → y ≢ mark → waiting mark (set marks v y) ≡ waiting mark marks
waits_same mark marks v y w m n = omega (arith, sum_by-set (one_if mark) marks v y 0 w, one_no mark (get_or marks v 0) m, one_no mark y n)

-- what is marked so is counted
pub waits_some : (mark : ℕ) (marks : List ℕ) (v : ℕ) → v < length marks → get_or marks v 0 ≡ mark → 0 < waiting mark marks
waits_some mark marks v w e = omega (arith, get_or-le-sum_by (one_if mark) marks v 0 w, one_yes mark (get_or marks v 0) e)

-- two are counted twice
pub waits_two : (mark : ℕ) (marks : List ℕ) (u v : ℕ) → mark ≢ 0 → u < length marks → v < length marks → u ≢ v → get_or marks u 0 ≡ mark → get_or marks v 0 ≡ mark → 1 < waiting mark marks
waits_two mark marks u v z i j n e f = grind (arith, waits_less mark marks u 0 i e (λ h. z (sym h)), waits_some mark (set marks u 0) v (omega (arith, j, length-set marks u 0)) (get_or-set_other marks u v 0 0 (λ h. n (sym h)) ∙ f))

-- what is counted stands somewhere
pub waits_where : (mark : ℕ) (marks : List ℕ) → 0 < waiting mark marks → (v : ℕ) × (v < length marks) × (get_or marks v 0 ≡ mark)
waits_where mark [] w = absurd (omega (arith, w))
waits_where mark (m ∷ marks) w =
    let s = sum_by-cons (one_if mark) m marks in
    ⊎_elim
    (λ b. (0, omega arith, eqb-true m mark b))
    (λ b.
    let n : one_if mark m ≡ 0 = ap (λ c. cond {A = ℕ} c 1 0) b in
    let r = waits_where mark marks (omega (arith, w, s, n)) in
    (suc r.0, omega (arith, r.1), r.2))
    (cases_Bool (m == mark))

-- where none is marked so, none is counted
pub waits_none : (mark : ℕ) (marks : List ℕ) → ((v : ℕ) → v < length marks → get_or marks v 0 ≢ mark) → waiting mark marks ≡ 0
waits_none mark marks n = ⊎_elim (λ w. let r = waits_where mark marks w in absurd (n r.0 r.1 r.2)) (λ z. omega (arith, z)) (cases_lt 0 (waiting mark marks))

-- where more than one is marked so, there is another
pub waits_other : (mark : ℕ) (marks : List ℕ) (v : ℕ) → mark ≢ 0 → v < length marks → get_or marks v 0 ≡ mark → 1 < waiting mark marks → (u : ℕ) × (u ≢ v) × (get_or marks u 0 ≡ mark)
waits_other mark marks v z w e many =
    let r = waits_where mark (set marks v 0) (grind (arith, waits_less mark marks v 0 w e)) in
    let n : r.0 ≢ v = grind (arith, get_or-set_same marks v 0 0 w) in
    (r.0, n, sym (get_or-set_other marks v r.0 0 0 n) ∙ r.2)
