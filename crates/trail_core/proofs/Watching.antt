-- The lists and the rows agree, before and after a clause watches another literal.
use Rattle.std.proofs.{Common.{suc, ◌≡◌, ◌≢◌, ◌==◌, ℕ, ◌+◌, ◌<◌, ◌≤◌, List, [], ◌∷◌, ◌++◌, length, get_or, set, cond, eqb, count_by, sum_by, ap, ◌∙◌, ⊎_elim, arith, ◌⊎◌, Contains, swap_remove}, lemmas.Bool.{eq-eqb, ne_eqb, cases_eq}}
use Rattle.std.proofs.lemmas.{Bool.Decides.nat_tests, List.{get_or-set_same, get_or-set_other, get_or_past, get_or_default, length_push, length-set, length-take-le}}
use Rattle.std.proofs.lemmas.List.Sums.{sum_by_push, sum_by-cons, sum_by-set, sum_by-swap_remove, get_or-le-sum_by}
use Rattle.cnf_formula.specs.Literals.{LitValue, code_of}
use Rattle.trail_core.{proofs.Places.at_set, specs.Watching.{RowValue, ListsValue, no_row, watch_count, occurrences, spare, row_at, list_at, IsWatched}}

-- ---- how often a literal is watched

abbrev pub hit : ℕ → ℕ → ℕ
hit a k = cond (eqb a k) 1 0

pub hit_yes : (a k : ℕ) → a ≡ k → hit a k ≡ 1
hit_yes a k e = ap (λ b. cond b 1 0) (eq-eqb a k e)

pub hit_no : (a k : ℕ) → a ≢ k → hit a k ≡ 0
hit_no a k e = ap (λ b. cond b 1 0) (ne_eqb a k e)

pub count_long : (r : RowValue) (k : ℕ) → 1 < length r.lits → watch_count r k ≡ hit (code_of r.first) k + hit (code_of r.second) k
count_long r k h = grind (arith, nat_tests)

pub count_short : (r : RowValue) (k : ℕ) → length r.lits ≤ 1 → watch_count r k ≡ 0
count_short r k h = grind (arith, nat_tests)

pub watch_long : (r : RowValue) (k : ℕ) → 0 < watch_count r k → 1 < length r.lits
watch_long r k h = grind (arith, nat_tests)

pub watch_which : (r : RowValue) (k : ℕ) → 0 < watch_count r k → (code_of r.first ≡ k) ⊎ (code_of r.second ≡ k)
watch_which r k h = grind (arith, nat_tests)

pub watch_within : (rows : List RowValue) (e k : ℕ) → 0 < watch_count (row_at rows e) k → e < length rows
watch_within rows e k h = grind (arith, nat_tests, get_or_past)

-- ---- lists and rows

-- a clause in a literal's list watches it
pub entry_watches : (rows : List RowValue) (w : ListsValue) (k place : ℕ) → IsWatched rows w → place < length (list_at w.lists k) → 0 < watch_count (row_at rows (get_or (list_at w.lists k) place 0)) k
entry_watches rows w k place i h = grind (arith, hit_yes, get_or-le-sum_by)

-- and so it is held
pub entry_within : (rows : List RowValue) (w : ListsValue) (k place e : ℕ) → IsWatched rows w → place < length (list_at w.lists k) → e ≡ get_or (list_at w.lists k) place 0 → e < length rows
entry_within rows w k place e i h is = grind (arith, watch_within rows e k, entry_watches rows w k place i h)

cons_counts : (x : ℕ) (xs : List ℕ) (e : ℕ) → 0 < count_by (λ y. y == e) (x ∷ xs) → (x ≡ e) ⊎ (0 < count_by (λ y. y == e) xs)
cons_counts x xs e h = grind (arith, nat_tests, sum_by-cons)

find : (xs : List ℕ) (e : ℕ) → 0 < count_by (λ x. x == e) xs → (j : ℕ) × (j < length xs) × (get_or xs j 0 ≡ e)
find [] e h = absurd (omega (arith, h))
find (x ∷ xs) e h = ⊎_elim (λ s. (0, omega arith, s)) (λ m. let r = find xs e m in (suc r.0, omega (arith, r.1), r.2)) (cons_counts x xs e h)

-- a clause that watches a literal is in its list
pub watch_entry : (rows : List RowValue) (w : ListsValue) (e k : ℕ) → IsWatched rows w → 0 < watch_count (row_at rows e) k → (j : ℕ) × (j < length (list_at w.lists k)) × (get_or (list_at w.lists k) j 0 ≡ e)
watch_entry rows w e k i h = find (list_at w.lists k) e (omega (arith, i.exact e k, h))

pub occurs : (xs : List LitValue) (l : LitValue) → Contains xs l → 0 < count_by (λ o. code_of o == code_of l) xs
occurs xs l c = grind (arith, hit_yes, get_or-le-sum_by)

-- there is room in the list of a literal of a clause that does not watch it
pub room_in_list : (rows : List RowValue) (w : ListsValue) (e k : ℕ) → IsWatched rows w → e < length rows → 0 < occurrences (row_at rows e) k → watch_count (row_at rows e) k ≡ 0 → length (list_at w.lists k) < get_or w.rooms k 0
room_in_list rows w e k i h o z =
    omega (arith, i.room k, i.fits k, get_or-le-sum_by (spare k) rows e no_row h, o, z)

-- ---- a clause watches another literal

-- the lists after the change: one place of the list at a is taken out, and the clause added to the list at b
abbrev pub shifted : List (List ℕ) → ℕ → ℕ → ℕ → ℕ → List (List ℕ)
shifted lists a place b c = set (set lists a (swap_remove (list_at lists a) place c)) b (list_at lists b ++ c ∷ [])

pub shifted_a : (lists : List (List ℕ)) (a place b c : ℕ) → a < length lists → a ≢ b → list_at (shifted lists a place b c) a ≡ swap_remove (list_at lists a) place c
shifted_a lists a place b c w d =
    get_or-set_other (set lists a (swap_remove (list_at lists a) place c)) b a (list_at lists b ++ c ∷ []) [] d ∙ get_or-set_same lists a (swap_remove (list_at lists a) place c) [] w

pub length_removed : (xs : List ℕ) (place c : ℕ) → place < length xs → length (swap_remove xs place c) + 1 ≡ length xs
length_removed xs place c w = grind (arith, sum_by-swap_remove, length-take-le, length-set)

pub moved : (rows : List RowValue) (w : ListsValue) (c a b place : ℕ) (r : RowValue) → IsWatched rows w → c < length rows → a < length w.lists → b < length w.lists → a ≢ b → place < length (list_at w.lists a) → get_or (list_at w.lists a) place 0 ≡ c
    → r.lits ≡ (row_at rows c).lits → watch_count (row_at rows c) a ≡ 1 → watch_count r a ≡ 0 → watch_count (row_at rows c) b ≡ 0 → watch_count r b ≡ 1 → ((k : ℕ) → k ≢ a → k ≢ b → watch_count r k ≡ watch_count (row_at rows c) k) → 0 < occurrences (row_at rows c) b
    → IsWatched (set rows c r) (record { watches = w.watches; lists = shifted w.lists a place b c; rooms = w.rooms; uses = w.uses })
moved rows w c a b place r i wc wa wb ab wp at same a1 a0 b0 b1 others occ = record { exact = λ e k. exact k e; room = room; fits = i.fits }
  where
    -- what holds of the list that gets the clause, of the one that it is taken from, and of the others
    each : (P : ℕ → List ℕ → Type 0) → P b (list_at w.lists b ++ c ∷ []) → P a (swap_remove (list_at w.lists a) place c) → ((k : ℕ) → k ≢ a → k ≢ b → P k (list_at w.lists k)) → (k : ℕ) → P k (list_at (shifted w.lists a place b c) k)
    each P gets loses keeps =
        let taken = swap_remove (list_at w.lists a) place c in
        at_set P (set w.lists a taken) b (list_at w.lists b ++ c ∷ []) [] (omega (arith, wb, length-set w.lists a taken))
        (λ k nb. at_set (λ m xs. m ≢ b → P m xs) w.lists a taken [] wa (λ m na mb. keeps m na mb) (λ mb. loses) k nb) gets

    exact : (k e : ℕ) → count_by (λ x. x == e) (list_at (shifted w.lists a place b c) k) ≡ watch_count (row_at (set rows c r) e) k
    exact = each (λ k xs. (e : ℕ) → count_by (λ x. x == e) xs ≡ watch_count (row_at (set rows c r) e) k)
        (λ e. grind (arith, i.exact e b, sum_by_push (λ x. hit x e) (list_at w.lists b) c, nat_tests, get_or-set_same, get_or-set_other, cases_eq e c))
        (λ e. grind (arith, i.exact e a, sum_by-swap_remove (λ x. hit x e) (list_at w.lists a) place c wp, get_or_default (list_at w.lists a) place c 0 wp, nat_tests, get_or-set_same, get_or-set_other, cases_eq e c))
        (λ k na nb e. grind (arith, i.exact e k, others k na nb, get_or-set_same, get_or-set_other, cases_eq e c))

    occurs_same : (k : ℕ) → occurrences r k ≡ occurrences (row_at rows c) k
    occurs_same k = ap (λ xs. count_by (λ l. code_of l == k) xs) same

    total : (k : ℕ) → sum_by (spare k) (set rows c r) + spare k (row_at rows c) ≡ sum_by (spare k) rows + spare k r
    total k = sum_by-set (spare k) rows c r no_row wc

    room : (k : ℕ) → length (list_at (shifted w.lists a place b c) k) + sum_by (spare k) (set rows c r) ≤ get_or w.uses k 0
    room = each (λ k xs. length xs + sum_by (spare k) (set rows c r) ≤ get_or w.uses k 0)
        (omega (arith, length_push (list_at w.lists b) c, total b, occurs_same b, b0, b1, occ, i.room b))
        (omega (arith, length_removed (list_at w.lists a) place c wp, total a, occurs_same a, a0, a1, i.room a))
        (λ k na nb. omega (arith, total k, occurs_same k, others k na nb, i.room k))
