-- A log of lines whose clauses are stated by none before is shorter than 3 to the number of variables.
use Rattle.std.proofs.Common.{zero, suc, ◌≡◌, ℕ, ◌+◌, ◌*◌, ◌/◌, ◌<◌, ◌≤◌, ◌^◌, Bool, true, false, eqb, List, [], ◌∷◌, length, refl, sym, ap, ◌∙◌, subst, ⊎_elim, arith, ◌≢◌, Contains, AllPairs, map, not, mul-le-mul_right}
use Rattle.std.proofs.{Math.Nat.{pow-suc, pow-zero}, lemmas.{List.{length-map, Elements.{All-contains, Contains-push, Contains-append_left}}, Nat.div-mul-add, Bool.{false≢true, cases_Bool, cases_lt, or_cases, or_right, ne_eqb, eqb-true}}}
use Rattle.std.{proofs.lemmas.{Map.{Keys.IsDistinct-cons, Steps.length-le_from_distinct_below}, List.Sums.list_all-from_AllPass}, specs.List.{list_any, IsDistinct, AllByRecursion}}
use Rattle.list_laws.proofs.Each.{all_contained}
use Rattle.cnf_formula.specs.{Literals.{LitValue, yes, no, has_literal, is_superset}, Formulas.{FormulaValue, IsAbout, IsClause}, Lines.ProofLineValue}
use Rattle.proof_rules.{specs.{Held.{Entry, CheckerValue, start_of, has_none}, Refuting.{with_line, is_fresh, SpentLog}, Learning.{AllImplied, AllFresh}}, proofs.{InTurn.learned_in_turn, Verdicts.implied_by}}
use Rattle.conflict_analysis.proofs.Members.{here}
use Rattle.sat_core.proofs.{Members.{any_by, found_by, stands_by, not_found}, Once.consistent_by}

-- ---- a clause as a number in base 3

abbrev pub digit : Bool → Bool → ℕ
digit true other = 1
digit false true = 2
digit false false = 0

-- 1 where the variable stands in the clause, 2 where its negation does, and else 0
abbrev pub digit_of : List LitValue → ℕ → ℕ
digit_of clause v = digit (has_literal clause (yes v)) (has_literal clause (no v))

abbrev pub number_to : List LitValue → ℕ → ℕ
number_to clause zero = 0
number_to clause (suc n) = digit_of clause (suc n) * 3 ^ n + number_to clause n

digit_small : (a b : Bool) → digit a b ≤ 2
digit_small a b = grind (arith, cases_Bool a, cases_Bool b)

power : (n : ℕ) → 3 ^ suc n ≡ 3 ^ n + 3 ^ n + 3 ^ n
power n = let p = pow-suc 3 n in omega (arith, p)

some_power : (n : ℕ) → 0 < 3 ^ n
some_power zero = omega (arith, pow-zero 3)
some_power (suc n) = omega (arith, some_power n, power n)

pub number_small : (clause : List LitValue) (n : ℕ) → number_to clause n < 3 ^ n
number_small clause zero = some_power zero
number_small clause (suc n) =
    let low = number_small clause n in
    let few = mul-le-mul_right (3 ^ n) (digit_small (has_literal clause (yes (suc n))) (has_literal clause (no (suc n)))) in
    omega (arith, low, power n, few)

-- the digits of one number
first_digit : (d e r s b : ℕ) → r < b → s < b → d * b + r ≡ e * b + s → (d ≡ e) × (r ≡ s)
first_digit d e r s b u v h =
    let same : d ≡ e = sym (div-mul-add d b r u) ∙ ap (λ n. n / b) h ∙ div-mul-add e b s v in
    (same, omega (arith, h, ap (λ x. x * b) same))

digits_same : (a b : List LitValue) (n : ℕ) → number_to a n ≡ number_to b n → (v : ℕ) → 0 < v → v ≤ n → digit_of a v ≡ digit_of b v
digits_same a b zero e v some w = absurd (omega (arith, some, w))
digits_same a b (suc n) e v some w =
    let f = first_digit (digit_of a (suc n)) (digit_of b (suc n)) (number_to a n) (number_to b n) (3 ^ n) (number_small a n) (number_small b n) e in
    ⊎_elim
    (λ lt. digits_same a b n f.1 v some (omega (arith, lt)))
    (λ ge. let is : suc n ≡ v = omega (arith, ge, w) in subst (λ k. digit_of a k ≡ digit_of b k) is f.0)
    (cases_lt v (suc n))

-- ---- what digits say of literals

one_by : (clause : List LitValue) (v : ℕ) → has_literal clause (yes v) ≡ true → digit_of clause v ≡ 1
one_by clause v h = ap (λ a. digit a (has_literal clause (no v))) h

two_by : (clause : List LitValue) (v : ℕ) → has_literal clause (yes v) ≡ false → has_literal clause (no v) ≡ true → digit_of clause v ≡ 2
two_by clause v h g = ap (λ a. digit a (has_literal clause (no v))) h ∙ ap (digit false) g

is_one : (a b : Bool) → digit a b ≡ 1 → a ≡ true
is_one a b e = grind (arith, cases_Bool a, cases_Bool b)

is_two : (a b : Bool) → digit a b ≡ 2 → b ≡ true
is_two a b e = grind (arith, cases_Bool a, cases_Bool b)

-- a variable stands in a clause once
abbrev pub IsOnce : List LitValue → Type 0
IsOnce clause = AllPairs (λ l other. l.var ≢ other.var) clause

-- clauses of one number have the same literals
same_literals : (a b : List LitValue) (n : ℕ) → IsOnce a → number_to a n ≡ number_to b n → (l : LitValue) → IsAbout n l → Contains a l → Contains b l
same_literals a b n once e l about c = go l.positive c
  where
    same : digit_of a l.var ≡ digit_of b l.var
    same = digits_same a b n e l.var about.some about.within

    go : (p : Bool) → Contains a (record { var = l.var; positive = p }) → Contains b (record { var = l.var; positive = p })
    go true c = stands_by b (yes l.var) (is_one _ (has_literal b (no l.var)) (sym same ∙ one_by a l.var (found_by a (yes l.var) c)))
    go false c = stands_by b (no l.var) (is_two (has_literal b (yes l.var)) _ (sym same ∙ two_by a l.var (not_found a (yes l.var) (λ d. consistent_by a once (yes l.var) d c)) (found_by a (no l.var) c)))

-- a clause that has all literals of another is a superset of it
superset_by : (clause other : List LitValue) → ((l : LitValue) → Contains other l → Contains clause l) → is_superset clause other ≡ true
superset_by clause other h = list_all-from_AllPass (has_literal clause) other (all_contained (λ l. has_literal clause l ≡ true) other (λ l c. found_by clause l (h l c)))

-- the number of no literals
no_number : (n : ℕ) → number_to [] n ≡ 0
no_number zero = refl
no_number (suc n) = omega (arith, no_number n)

-- ---- a log

abbrev numbers : ℕ → List ProofLineValue → List ℕ
numbers n lines = map (λ line. number_to line.lits n) lines

-- a fresh clause has a literal, and is no superset of what is held
fresh_literal : (c : CheckerValue) (clause : List LitValue) → is_fresh c clause ≡ true → (l : LitValue) × Contains clause l
fresh_literal c [] f = absurd (false≢true f)
fresh_literal c (x ∷ clause) f = (x, here x clause)

fresh_apart : (c : CheckerValue) (clause : List LitValue) (entry : Entry) → is_fresh c clause ≡ true → Contains c.held entry → is_superset clause entry.1 ≡ false
fresh_apart c clause entry f i = ⊎_elim
    (λ s. absurd (false≢true (sym (ap not (or_right (has_none clause) _ (any_by (λ e. is_superset clause e.1) c.held entry i s))) ∙ f)))
    (λ s. s)
    (cases_Bool (is_superset clause entry.1))

-- the numbers after a clause that is held are others
others_apart : (lines : List ProofLineValue) (c : CheckerValue) (entry : Entry) → Contains c.held entry → IsClause c.formula.vars entry.1 → IsOnce entry.1 → AllImplied c lines → AllFresh c lines → AllByRecursion (λ y. eqb (number_to entry.1 c.formula.vars) y ≡ false) (numbers c.formula.vars lines)
others_apart [] c entry i about once a f = tt
others_apart (line ∷ lines) c entry i about once a f = (
  ne_eqb (number_to entry.1 c.formula.vars) (number_to line.lits c.formula.vars) (λ e.
      false≢true (sym (fresh_apart c line.lits entry f.0 i) ∙ superset_by line.lits entry.1 (λ l d. same_literals entry.1 line.lits c.formula.vars once e l (All-contains (IsAbout c.formula.vars) entry.1 l about d) d))),
  others_apart lines (with_line c line) entry (Contains-append_left c.held ((line.id, line.lits) ∷ []) entry i) about once a.1 f.1,
)

distinct : (lines : List ProofLineValue) (c : CheckerValue) → AllImplied c lines → AllFresh c lines → IsDistinct eqb (numbers c.formula.vars lines)
unfolding IsDistinct
distinct [] c a f = tt
distinct (line ∷ lines) c a f =
    let new = (implied_by c line a.0).new in
    (others_apart lines (with_line c line) (line.id, line.lits) (Contains-push c.held (line.id, line.lits)) new.in_range new.once a.1 f.1, distinct lines (with_line c line) a.1 f.1)

-- and none is 0
none_zero : (lines : List ProofLineValue) (c : CheckerValue) → AllImplied c lines → AllFresh c lines → AllByRecursion (λ y. eqb 0 y ≡ false) (numbers c.formula.vars lines)
none_zero [] c a f = tt
none_zero (line ∷ lines) c a f =
    let new = (implied_by c line a.0).new in
    let l = fresh_literal c line.lits f.0 in
    let n = c.formula.vars in
    let about = All-contains (IsAbout n) line.lits l.0 new.in_range l.1 in
    (ne_eqb 0 (number_to line.lits n) (λ e. let none = same_literals line.lits [] n new.once (sym e ∙ sym (no_number n)) l.0 about l.1 in omega (arith, none.1)), none_zero lines (with_line c line) a.1 f.1)

all_small : (n : ℕ) (lines : List ProofLineValue) (q : ℕ) → list_any (eqb q) (numbers n lines) ≡ true → q < 3 ^ n
all_small n [] q h = absurd (false≢true h)
all_small n (line ∷ lines) q h = ⊎_elim
    (λ e. let s = number_small line.lits n in omega (arith, s, eqb-true q (number_to line.lits n) e))
    (λ r. all_small n lines q r)
    (or_cases (eqb q (number_to line.lits n)) (list_any (eqb q) (numbers n lines)) h)

pub few_lines : (lines : List ProofLineValue) (c : CheckerValue) → AllImplied c lines → AllFresh c lines → length lines < 3 ^ c.formula.vars
few_lines lines c a f =
    let n = c.formula.vars in
    let small : (q : ℕ) → list_any (eqb q) (0 ∷ numbers n lines) ≡ true → q < 3 ^ n =
    λ q h. ⊎_elim (λ e. omega (arith, some_power n, eqb-true q 0 e)) (λ r. all_small n lines q r) (or_cases (eqb q 0) (list_any (eqb q) (numbers n lines)) h) in
    let few = length-le_from_distinct_below (0 ∷ numbers n lines) (3 ^ n) (IsDistinct-cons eqb 0 (numbers n lines) (none_zero lines c a f) (distinct lines c a f)) small in
    omega (arith, few, length-map lines (λ line. number_to line.lits n))

pub few_spent : (f : FormulaValue) (lines : List ProofLineValue) (n : ℕ) → SpentLog lines f n → n < 3 ^ f.vars
few_spent f lines n s = grind (arith, learned_in_turn lines (start_of f) s.learned, few_lines lines (start_of f) (learned_in_turn lines (start_of f) s.learned).0 (learned_in_turn lines (start_of f) s.learned).1)
