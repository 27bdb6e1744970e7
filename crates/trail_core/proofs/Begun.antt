-- The clauses that a core begins with, each of which watches its first two literals.
use Rattle.std.proofs.Common.{◌≡◌, ◌==◌, ℕ, ◌+◌, ◌<◌, ◌≤◌, List, [], ◌∷◌, ◌++◌, map, length, get_or, take, drop, cond, count_by, sum_by, refl, sym, ap, ◌∙◌, subst, arith, ◌≢◌, Contains, All, AllPairs}
use Rattle.std.proofs.lemmas.List.{get_or-map, length-map, length_push, map_push, take_more, take-append-drop, Concat.flat_map-append, Elements.Contains-get_or, Sums.{sum_by_push, sum_by-append}}
use Rattle.cnf_formula.specs.{Literals.{LitValue, code_of, yes}, Formulas.IsClause}
use Rattle.trail_core.specs.{Watching.{RowValue, ListsValue, no_row, watch_count, occurrences, IsRow, AreRows, AreLists, AreBlocked}, Search.clauses_of, Kept.{IsShort, IsKept}, inner.Begun.{front_row, IsBegun}}
use Rattle.trail_core.proofs.{Storing.{joined, joined_more, occurrences_joined}, Added.{Put, exact_add, known_add, own_count}}

-- a clause watches its first two literals
pub front_is : (vars : ℕ) (lits : List LitValue) → IsClause vars lits → AllPairs (λ a b. a ≢ b) lits → IsRow vars (front_row lits)
front_is vars lits about once = grind (arith, Contains-get_or)

-- it watches no literal more often than it stands in it
pub front_own : (lits : List LitValue) → AllPairs (λ a b. a ≢ b) lits → (k : ℕ) → watch_count (front_row lits) k ≤ occurrences (front_row lits) k
front_own lits once k =
    own_count (front_row lits) k (λ h. Contains-get_or lits 0 (yes 1) (omega (arith, h))) (λ h. Contains-get_or lits 1 (yes 1) h) (λ h. once 0 1 (yes 1) (omega arith) h)

pub lits_front : (clauses : List (List LitValue)) → clauses_of (map front_row clauses) ≡ clauses
lits_front [] = refl
lits_front (c ∷ cs) = ap (λ xs. c ∷ xs) (lits_front cs)

pub rows_front : (vars : ℕ) (clauses : List (List LitValue)) → All (IsClause vars) clauses → All (AllPairs (λ a b. a ≢ b)) clauses → AreRows vars (map front_row clauses)
rows_front vars clauses about once e w =
    let lt : e < length clauses = omega (arith, w, length-map clauses front_row) in
    subst (IsRow vars) (sym (get_or-map front_row clauses e [] no_row lt)) (front_is vars (get_or clauses e []) (about e [] lt) (once e [] lt))

pub rows_more : (clauses : List (List LitValue)) (k : ℕ) → k < length clauses → map front_row (take (k + 1) clauses) ≡ map front_row (take k clauses) ++ front_row (get_or clauses k []) ∷ []
rows_more clauses k w = ap (map front_row) (take_more clauses k [] w) ∙ map_push front_row (take k clauses) (get_or clauses k [])

-- a literal stands in some of the clauses no more often than in all
pub few_front : (clauses : List (List LitValue)) (k code : ℕ) → k < length clauses → sum_by (λ r. occurrences r code) (map front_row (take k clauses)) + count_by (λ l. code_of l == code) (get_or clauses k []) ≤ count_by (λ l. code_of l == code) (joined clauses)
few_front clauses k code w =
    let one : LitValue → ℕ = λ l. cond {A = ℕ} (code_of l == code) 1 0 in
    let front = joined (take (k + 1) clauses) in
    let rest = joined (drop (k + 1) clauses) in
    let whole : joined clauses ≡ front ++ rest = sym (ap joined (take-append-drop (k + 1) clauses)) ∙ flat_map-append (λ xs. xs) (take (k + 1) clauses) (drop (k + 1) clauses) in
    grind (arith, occurrences_joined, joined_more clauses k w, sum_by-append, whole)

-- one clause more
pub begun_add : (rows : List RowValue) (w w' : ListsValue) (r : RowValue) (short short' : List ℕ) → IsBegun rows w short → ((k : ℕ) → Put w.lists w'.lists r (length rows) k) → ((k : ℕ) → watch_count r k ≤ occurrences r k) → AreBlocked (clauses_of (rows ++ r ∷ [])) w'.watches
    → ((e : ℕ) → Contains short e → Contains short' e) → (length r.lits ≤ 1 → Contains short' (length rows)) → All (IsShort (rows ++ r ∷ [])) short' → IsBegun (rows ++ r ∷ []) w' short'
begun_add rows w w' r short short' b put own blocked more new all = grind (arith, exact_add rows w.lists w'.lists r b.exact put, sum_by_push, length_push, known_add rows r short short' b.short_known more new)

-- where nothing is decided nor implied
pub kept_begun : (vars : ℕ) (rows : List RowValue) (w : ListsValue) (short : List ℕ) → AreLists vars w → AreRows vars rows → IsBegun rows w short → ((k : ℕ) → sum_by (λ r. occurrences r k) rows ≤ get_or w.uses k 0) → w.rooms ≡ w.uses → IsKept rows w (record { vars = vars; steps = []; limits = [] }) 0 short
kept_begun vars rows w short lists are b uses rooms = grind arith
