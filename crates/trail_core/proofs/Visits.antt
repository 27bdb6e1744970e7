-- One visit of a clause that watches a literal which is false.
use Rattle.std.proofs.Common.{◌≡◌, ◌≢◌, ℕ, ◌+◌, ◌<◌, true, false, List, [], ◌∷◌, ◌++◌, Some, length, get_or, set, eqb, Bool, IsTrue, ◌↔◌, refl, sym, ap, ◌∙◌, subst, inl, inr, ⊎_elim, arith, ◌⊎◌, Contains, swap_remove}
use Rattle.std.proofs.lemmas.{Bool.{eqb-true, eqb-false, cases_eq}, List.{get_or-set_same, get_or-set_other, get_or-take, get_or_default, length-set, length-map, get_or-map, get_or_past, map_push, Elements.Contains-push}}
use Rattle.list_laws.proofs.Fronts.{same_map}
use Rattle.cnf_formula.{specs.Literals.{LitValue, code_of}, proofs.Codes.same_code}
use Rattle.trail_core.specs.{Assigned.{IsFalse, IsOpen}, Trails.{StepValue, TrailValue, lits_of}, Search.{IsUnit, IsSatisfied, Implied, HasLit, clauses_of, Scanned}}
use Rattle.trail_core.specs.{Watching.{RowValue, ListsValue, no_row, watch_count, row_at, list_at, IsWatched, IsRow, AreRows}, Search.Implied.{none, more}}
use Rattle.trail_core.proofs.{Places.at_set, Watching.{hit, hit_yes, hit_no, count_long, watch_long, watch_which, watch_within, entry_watches, occurs, room_in_list, shifted, moved}}

-- the clause and the two literals that it watches, of which one is false
pub record Pair (rows : List RowValue) (id : ℕ) (falsified other : LitValue) : Type 0 where
  pub within : id < length rows
  pub long : 1 < length (row_at rows id).lits
  pub own : Contains (row_at rows id).lits other
  pub own_false : Contains (row_at rows id).lits falsified
  pub apart : other ≢ falsified
  pub counts : (k : ℕ) → watch_count (row_at rows id) k ≡ hit (code_of falsified) k + hit (code_of other) k

-- which of the two is the other
abbrev pub IsOther : LitValue → LitValue → LitValue → LitValue → Type 0
IsOther first second falsified other = ((first ≡ falsified) × (other ≡ second)) ⊎ ((first ≢ falsified) × (other ≡ first))

pair_straight : (vars : ℕ) (rows : List RowValue) (id : ℕ) → id < length rows → IsRow vars (row_at rows id) → 1 < length (row_at rows id).lits → Pair rows id (row_at rows id).first (row_at rows id).second
pair_straight vars rows id w row long = record { within = w; long = long; own = row.second long; own_false = row.first long; apart = λ e. row.differ long (sym e); counts = λ k. count_long (row_at rows id) k long }

pair_crossed : (vars : ℕ) (rows : List RowValue) (id : ℕ) → id < length rows → IsRow vars (row_at rows id) → 1 < length (row_at rows id).lits → Pair rows id (row_at rows id).second (row_at rows id).first
pair_crossed vars rows id w row long = record { within = w; long = long; own = row.first long; own_false = row.second long; apart = row.differ long; counts = λ k. omega (arith, count_long (row_at rows id) k long) }

pub pair_is : (vars : ℕ) (rows : List RowValue) (w : ListsValue) (id place : ℕ) (falsified first second other : LitValue) → AreRows vars rows → IsWatched rows w → place < length (list_at w.lists (code_of falsified)) → id ≡ get_or (list_at w.lists (code_of falsified)) place 0
    → first ≡ (row_at rows id).first → second ≡ (row_at rows id).second → IsOther first second falsified other → Pair rows id falsified other
pair_is vars rows w id place falsified first second other are i p at f s o =
    let r = row_at rows id in
    let watches : 0 < watch_count r (code_of falsified) = subst (λ e. 0 < watch_count (row_at rows e) (code_of falsified)) (sym at) (entry_watches rows w (code_of falsified) place i p) in
    let within = watch_within rows id (code_of falsified) watches in
    let long = watch_long r (code_of falsified) watches in
    ⊎_elim
    (λ q. subst (λ l. Pair rows id l other) (sym f ∙ q.0) (subst (Pair rows id r.first) (sym s ∙ sym q.1) (pair_straight vars rows id within (are id within) long)))
    (λ q.
    let is : r.second ≡ falsified = ⊎_elim (λ e. absurd (q.0 (f ∙ same_code r.first falsified e))) (λ e. same_code r.second falsified e) (watch_which r (code_of falsified) watches) in
    subst (λ l. Pair rows id l other) is (subst (Pair rows id r.second) (sym f ∙ sym q.1) (pair_crossed vars rows id within (are id within) long)))
    o

-- a row's clause
pub lits_at : (rows : List RowValue) (e : ℕ) → (row_at rows e).lits ≡ get_or (clauses_of rows) e []
lits_at rows e = grind (arith, get_or-map, get_or_past, length-map)

pub implied_same : (clauses : List (List LitValue)) (due : List StepValue → List LitValue → Type 0) (steps : List StepValue) → Implied clauses due steps steps
implied_same clauses due steps = none steps

pub scanned_same : (by : LitValue) (rows : List RowValue) (t : TrailValue) → Scanned by rows t rows t
scanned_same by rows t = grind (arith, implied_same)

-- a literal that is not false watches in place of one that is
pub record Found (trues : List LitValue) (clause : List LitValue) (other x : LitValue) : Type 0 where
  pub stands : Contains clause x
  pub differs : x ≢ other
  pub not_false : IsFalse trues x → ⊥

abbrev pub rewatched : List RowValue → ℕ → LitValue → LitValue → List RowValue
rewatched rows id other x = set rows id (record { lits = (row_at rows id).lits; first = other; second = x })

new_counts : (rows : List RowValue) (id : ℕ) (falsified other x : LitValue) → Pair rows id falsified other → (k : ℕ) → watch_count (record { lits = (row_at rows id).lits; first = other; second = x }) k ≡ hit (code_of other) k + hit (code_of x) k
new_counts rows id falsified other x p k = count_long (record { lits = (row_at rows id).lits; first = other; second = x }) k p.long

pub codes_differ : (a b : LitValue) → a ≢ b → code_of a ≢ code_of b
codes_differ a b d e = d (same_code a b e)

not_the_false : (trues clause : List LitValue) (falsified other x : LitValue) → IsFalse trues falsified → Found trues clause other x → x ≢ falsified
not_the_false trues clause falsified other x f n e = n.not_false (subst (λ l. IsFalse trues l) (sym e) f)

pub found_apart : (trues clause : List LitValue) (falsified other x : LitValue) → IsFalse trues falsified → Found trues clause other x → code_of falsified ≢ code_of x
found_apart trues clause falsified other x f n e = not_the_false trues clause falsified other x f n (sym (same_code falsified x e))

pub found_room : (rows : List RowValue) (w : ListsValue) (trues : List LitValue) (id : ℕ) (falsified other x : LitValue) → IsWatched rows w → Pair rows id falsified other → IsFalse trues falsified → Found trues (row_at rows id).lits other x → length (list_at w.lists (code_of x)) < get_or w.rooms (code_of x) 0
found_room rows w trues id falsified other x i p f n =
    let zero' : watch_count (row_at rows id) (code_of x) ≡ 0 = omega (arith, p.counts (code_of x), hit_no (code_of falsified) (code_of x) (found_apart trues (row_at rows id).lits falsified other x f n), hit_no (code_of other) (code_of x) (codes_differ other x (λ e. n.differs (sym e)))) in
    room_in_list rows w id (code_of x) i p.within (occurs (row_at rows id).lits x n.stands) zero'

pub rewatched_is : (rows : List RowValue) (w : ListsValue) (trues : List LitValue) (id place : ℕ) (falsified other x : LitValue) → IsWatched rows w → Pair rows id falsified other → IsFalse trues falsified → Found trues (row_at rows id).lits other x
    → code_of falsified < length w.lists → code_of x < length w.lists → place < length (list_at w.lists (code_of falsified)) → get_or (list_at w.lists (code_of falsified)) place 0 ≡ id
    → IsWatched (rewatched rows id other x) (record { watches = w.watches; lists = shifted w.lists (code_of falsified) place (code_of x) id; rooms = w.rooms; uses = w.uses })
rewatched_is rows w trues id place falsified other x i p f n wa wb wp at =
    let a = code_of falsified in
    let b = code_of x in
    let ab : a ≢ b = found_apart trues (row_at rows id).lits falsified other x f n in
    let oa : code_of other ≢ a = codes_differ other falsified p.apart in
    let ob : code_of other ≢ b = codes_differ other x (λ e. n.differs (sym e)) in
    let new = new_counts rows id falsified other x p in
    moved rows w id a b place (record { lits = (row_at rows id).lits; first = other; second = x }) i p.within wa wb ab wp at refl
    (omega (arith, p.counts a, hit_yes a a refl, hit_no (code_of other) a oa))
    (omega (arith, new a, hit_no (code_of other) a oa, hit_no b a (λ e. ab (sym e))))
    (omega (arith, p.counts b, hit_no a b ab, hit_no (code_of other) b ob))
    (omega (arith, new b, hit_no (code_of other) b ob, hit_yes b b refl))
    (λ k na nb. omega (arith, new k, p.counts k, hit_no a k (λ e. na (sym e)), hit_no b k (λ e. nb (sym e))))
    (occurs (row_at rows id).lits x n.stands)

pub rewatched_rows : (vars : ℕ) (rows : List RowValue) (trues : List LitValue) (id : ℕ) (falsified other x : LitValue) → AreRows vars rows → Pair rows id falsified other → Found trues (row_at rows id).lits other x → AreRows vars (rewatched rows id other x)
rewatched_rows vars rows trues id falsified other x are p n e w =
    let r : RowValue = record { lits = (row_at rows id).lits; first = other; second = x } in
    at_set (λ i y. i < length rows → IsRow vars y) rows id r no_row p.within (λ i d. are i) (λ v. record { within = (are id v).within; first = λ h. p.own; second = λ h. n.stands; differ = λ h q. n.differs (sym q) }) e (omega (arith, w, length-set rows id r))

pub rewatched_scanned : (rows : List RowValue) (t : TrailValue) (id : ℕ) (falsified other x : LitValue) → Pair rows id falsified other → Found (lits_of t.steps) (row_at rows id).lits other x → Scanned falsified rows t (rewatched rows id other x) t
rewatched_scanned rows t id falsified other x p n = record {
  vars = refl;
  limits = refl;
  count = length-set rows id (record { lits = (row_at rows id).lits; first = other; second = x });
  same = same_map (λ r. r.lits) rows id (row_at rows id) (record { lits = (row_at rows id).lits; first = other; second = x }) p.within (get_or_default rows id no_row (row_at rows id) p.within) refl;
  watches = λ e k. at_set (λ i y. 0 < watch_count y k → (0 < watch_count (row_at rows i) k) ⊎ ((l : LitValue) → code_of l ≡ k → IsFalse (lits_of t.steps) l → ⊥)) rows id (record { lits = (row_at rows id).lits; first = other; second = x }) no_row p.within
      (λ i d h. inl h)
      (λ h. ⊎_elim
      (λ y. inr (λ l q f. n.not_false (subst (λ z. IsFalse (lits_of t.steps) z) (same_code l x (q ∙ sym y)) f)))
      (λ y. inl (omega (arith, h, new_counts rows id falsified other x p k, hit_no (code_of x) k y, p.counts k)))
      (cases_eq (code_of x) k)) e;
  implied = none t.steps;
}

pub rewatched_not : (rows : List RowValue) (trues : List LitValue) (id : ℕ) (falsified other x : LitValue) → Pair rows id falsified other → IsFalse trues falsified → Found trues (row_at rows id).lits other x → watch_count (row_at (rewatched rows id other x) id) (code_of falsified) ≡ 0
rewatched_not rows trues id falsified other x p f n = grind (arith, get_or-set_same, new_counts, hit_no, codes_differ, found_apart)

-- below the place that is taken out the list stays
pub removed_front : (xs : List ℕ) (place c j : ℕ) → place < length xs → j < place → get_or (swap_remove xs place c) j 0 ≡ get_or xs j 0
removed_front xs place c j w h = grind (arith, get_or-take, get_or-set_other)

-- a literal that is neither
pub open_by : (t f : Bool) (trues : List LitValue) (l : LitValue) → (IsTrue t ↔ Contains trues l) → (IsTrue f ↔ IsFalse trues l) → t ≡ false → f ≡ false → IsOpen trues l
open_by t f trues l p q a b = grind arith

-- the other literal becomes true
pub pushed_scanned : (rows : List RowValue) (t t' : TrailValue) (id : ℕ) (falsified other : LitValue) → id < length rows → Contains (row_at rows id).lits other → Contains (row_at rows id).lits falsified → IsOpen (lits_of t.steps) other → ((o : LitValue) → Contains (row_at rows id).lits o → (o ≡ other) ⊎ IsFalse (lits_of t.steps) o)
    → t' ≡ record t { steps = t.steps ++ record { lit = other; reason = Some id } ∷ [] } → Scanned falsified rows t rows t'
pushed_scanned rows t t' id falsified other within own own_false o others e = record {
  vars = ap (λ u. u.vars) e;
  limits = ap (λ u. u.limits) e;
  count = refl;
  same = refl;
  watches = λ n k h. inl h;
  implied = subst (λ ss. Implied (clauses_of rows) (HasLit falsified) t.steps ss) (sym (ap (λ u. u.steps) e))
      (more t.steps t.steps (record { lit = other; reason = Some id }) (none t.steps) (record {
        id = id;
        reason = refl;
        within = omega (arith, within, length-map rows (λ r. r.lits));
        unit = subst (λ xs. IsUnit (lits_of t.steps) xs other) (lits_at rows id) (record { stands = own; open_ = o; others = others });
        was_due = subst (λ xs. Contains xs falsified) (lits_at rows id) own_false;
      }));
}

pub lits_push : (steps : List StepValue) (s : StepValue) → lits_of (steps ++ s ∷ []) ≡ lits_of steps ++ s.lit ∷ []
lits_push steps s = map_push (λ x. x.lit) steps s

-- and so it satisfies its clause
pub pushed_satisfied : (rows : List RowValue) (t t' : TrailValue) (id e : ℕ) (l : LitValue) → Contains (row_at rows id).lits l → t' ≡ record t { steps = t.steps ++ record { lit = l; reason = Some id } ∷ [] } → id ≡ e → IsSatisfied (lits_of t'.steps) (row_at rows e).lits
pushed_satisfied rows t t' id e l own p is = (l, subst (λ n. Contains (row_at rows n).lits l) is own, subst (λ ls. Contains ls l) (sym (ap (λ u. lits_of u.steps) p ∙ lits_push t.steps (record { lit = l; reason = Some id }))) (Contains-push (lits_of t.steps) l))

-- ---- equal literals

pub same_lit : (a b : LitValue) → eqb (code_of a) (code_of b) ≡ true → a ≡ b
same_lit a b e = same_code a b (eqb-true (code_of a) (code_of b) e)

pub other_lit : (a b : LitValue) → eqb (code_of a) (code_of b) ≡ false → a ≢ b
other_lit a b e s = eqb-false (code_of a) (code_of b) e (ap code_of s)
