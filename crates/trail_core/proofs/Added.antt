-- What a core keeps, as a clause is added.
use Rattle.std.proofs.{lemmas.Grind.common_steps, Common.{◌≡◌, ◌≢◌, ◌==◌, ℕ, ◌+◌, ◌<◌, ◌≤◌, List, [], ◌∷◌, ◌++◌, length, get_or, set, take, Some, leb, cond, count_by, refl, sym, ap, ◌∙◌, subst, inl, inr, ⊎_elim, arith, ◌⊎◌, Contains, All}}
use Rattle.std.proofs.lemmas.{Bool.{cases_lt, cases_eq, le-leb, lt-leb, Decides.nat_tests}, List.Sums.{sum_by_push, sum_by-set, count_by-le-length}}
use Rattle.std.proofs.lemmas.List.{get_or_past, get_or_append_left, get_or_push, get_or-take, get_or_default, length_push, map_push, length-take-le, get_or-set_same, get_or-set_other, length-set, length-map, take-append-le, take-take}
use Rattle.std.proofs.lemmas.List.Elements.{All-push, Contains-push, Contains-append_left}
use Rattle.cnf_formula.{specs.Literals.{LitValue, negation, code_of}, proofs.Codes.same_code}
use Rattle.trail_core.specs.{Assigned.{IsFalse, level_at}, Trails.{StepValue, TrailValue, lits_of}, Search.{IsSatisfied, IsUnit, clauses_of, CanScan}}
use Rattle.trail_core.specs.{Watching.{RowValue, ListsValue, no_row, watch_count, occurrences, row_at, list_at, IsWatched, IsRow, AreRows, AreLists, HasRoom, AreBlocked}, Kept.{Excused, IsDue, IsGrounded, IsShort, IsKept, IsRecent}}
use Rattle.trail_core.proofs.{Watching.{count_long, count_short, watch_which, occurs}, Keeping.{lits_length, in_front}, Levels.kept_assert}
use Rattle.list_laws.proofs.Places.{by_place_push}

-- ---- rows with one more

pub row_new : (rows : List RowValue) (r : RowValue) → row_at (rows ++ r ∷ []) (length rows) ≡ r
row_new rows r = get_or_push rows r no_row (length rows) refl

-- what holds of each row and of none
row_push : (rows : List RowValue) (r : RowValue) (P : ℕ → RowValue → Type 0) → ((e : ℕ) → e < length rows → P e (row_at rows e)) → P (length rows) r → ((e : ℕ) → length rows < e → P e no_row) → (e : ℕ) → P e (row_at (rows ++ r ∷ []) e)
row_push rows r P old new past e = grind (arith, old e, past e, get_or_past, get_or_append_left, get_or_push, length_push)

-- a literal's list after the clause came to the lists that it watches
abbrev pub Put : List (List ℕ) → List (List ℕ) → RowValue → ℕ → ℕ → Type 0
Put lists lists' r id k = ((list_at lists' k ≡ list_at lists k) × (watch_count r k ≡ 0)) ⊎ ((list_at lists' k ≡ list_at lists k ++ id ∷ []) × (watch_count r k ≡ 1))

none_watch : (k : ℕ) → watch_count no_row k ≡ 0
none_watch k = count_short no_row k (omega arith)

-- the lists name the clause that came as often as it watches their literals
pub exact_add : (rows : List RowValue) (lists lists' : List (List ℕ)) (r : RowValue) → ((e k : ℕ) → count_by (λ x. x == e) (list_at lists k) ≡ watch_count (row_at rows e) k) → ((k : ℕ) → Put lists lists' r (length rows) k)
    → (e k : ℕ) → count_by (λ x. x == e) (list_at lists' k) ≡ watch_count (row_at (rows ++ r ∷ []) e) k
exact_add rows lists lists' r exact put e k = grind (arith, exact e k, put k, nat_tests, sum_by_push, get_or_past, get_or_append_left, get_or_push, length_push, cases_eq e (length rows))

pub watched_add : (rows : List RowValue) (w w' : ListsValue) (r : RowValue) → IsWatched rows w → ((k : ℕ) → Put w.lists w'.lists r (length rows) k) → ((k : ℕ) → get_or w.uses k 0 + occurrences r k ≤ get_or w'.uses k 0) → ((k : ℕ) → get_or w'.uses k 0 ≤ get_or w'.rooms k 0)
    → ((k : ℕ) → watch_count r k ≤ occurrences r k) → IsWatched (rows ++ r ∷ []) w'
watched_add rows w w' r i put uses fits own = grind (arith, exact_add rows w.lists w'.lists r i.exact put, sum_by_push, length_push)

-- a clause watches no literal more often than it stands in it
pub own_count : (r : RowValue) (k : ℕ) → (1 < length r.lits → Contains r.lits r.first) → (1 < length r.lits → Contains r.lits r.second) → (1 < length r.lits → r.first ≢ r.second) → watch_count r k ≤ occurrences r k
own_count r k f s d = grind (arith, nat_tests, common_steps, ⊎_elim, count_long, occurs, same_code, nat_tests, count_short, cases_lt)

pub put_short : (lists : List (List ℕ)) (r : RowValue) (id : ℕ) → length r.lits ≤ 1 → (k : ℕ) → Put lists lists r id k
put_short lists r id h k = inl (refl, count_short r k h)

pub put_two : (lists : List (List ℕ)) (r : RowValue) (id : ℕ) → 1 < length r.lits → r.first ≢ r.second → code_of r.first < length lists → code_of r.second < length lists
    → (k : ℕ) → Put lists (set (set lists (code_of r.first) (list_at lists (code_of r.first) ++ id ∷ [])) (code_of r.second) (list_at (set lists (code_of r.first) (list_at lists (code_of r.first) ++ id ∷ [])) (code_of r.second) ++ id ∷ [])) r id k
put_two lists r id h d wa wb k = grind (arith, count_long r k h, nat_tests, same_code r.first r.second, get_or-set_same, get_or-set_other, length-set, cases_eq (code_of r.first) k, cases_eq (code_of r.second) k)

-- ---- what is kept

pub counted_all : (xs : List ℕ) (k : ℕ) → level_at xs k ≡ length xs → (i : ℕ) → i < length xs → get_or xs i 0 ≤ k
counted_all xs k e i w = grind (arith, sum_by-set (λ m. cond (leb m k) 1 0) xs i k 0 w, lt-leb, le-leb, count_by-le-length (λ m. leb m k) (set xs i k), length-set)

-- a literal stands on a trail but once
abbrev pub IsOnce : List LitValue → Type 0
IsOnce trues = (i j : ℕ) (d : LitValue) → i < j → j < length trues → get_or trues i d ≢ get_or trues j d

-- a literal that became false on the present level is not false below it
pub recent_not_below : (t : TrailValue) (o : LitValue) (m : ℕ) → IsOnce (lits_of t.steps) → IsRecent t o → (j : ℕ) → j < length t.limits → m ≤ get_or t.limits j 0 → IsFalse (take m (lits_of t.steps)) o → ⊥
recent_not_below t o m once r j v h f = grind (arith, counted_all t.limits r.place r.level j v, lits_length t.steps, length-take-le, get_or-take, get_or_default, once f.0 r.place (negation o))

-- neither of the two watched literals is false
pub unseen_by : (r : RowValue) (falses : List LitValue) → (IsFalse falses r.first → ⊥) → (IsFalse falses r.second → ⊥) → (l : LitValue) → 0 < watch_count r (code_of l) → IsFalse falses l → ⊥
unseen_by r falses first second l h f = grind (arith, same_code, watch_which r (code_of l) h)

-- the short clauses are known still
pub known_add : (rows : List RowValue) (r : RowValue) (short short' : List ℕ) → ((e : ℕ) → e < length rows → length (row_at rows e).lits ≤ 1 → Contains short e) → ((e : ℕ) → Contains short e → Contains short' e) → (length r.lits ≤ 1 → Contains short' (length rows))
    → (e : ℕ) → e < length (rows ++ r ∷ []) → length (row_at (rows ++ r ∷ []) e).lits ≤ 1 → Contains short' e
known_add rows r short short' known more new = by_place_push (λ e x. length x.lits ≤ 1 → Contains short' e) rows r no_row (λ e v s. more e (known e v s)) new

-- a clause that watches a false literal is satisfied, where the new one is
excused_add : (rows : List RowValue) (r : RowValue) (falses falses' trues : List LitValue) → ((l : LitValue) → 0 < watch_count r (code_of l) → IsFalse falses' l → IsSatisfied trues r.lits) → ((l : LitValue) → IsFalse falses' l → IsFalse falses l) → Excused rows falses trues → Excused (rows ++ r ∷ []) falses' trues
excused_add rows r falses falses' trues new wider old e l h f = row_push rows r (λ n x. 0 < watch_count x (code_of l) → IsSatisfied trues x.lits)
    (λ n u g. old n l g (wider l f)) (λ g. new l g f) (λ n u g. absurd (omega (arith, g, none_watch (code_of l)))) e h

-- what is to be propagated begins before the new clause watches a false literal
pub kept_add : (rows : List RowValue) (w w' : ListsValue) (t : TrailValue) (head head' : ℕ) (short short' : List ℕ) (r : RowValue) → IsKept rows w t head short → CanScan (rows ++ r ∷ []) w' t → (0 < length t.limits → 1 < length r.lits)
    → head' ≤ head → ((j : ℕ) → j < length t.limits → get_or t.limits j 0 ≤ head') → ((l : LitValue) → 0 < watch_count r (code_of l) → IsFalse (take head' (lits_of t.steps)) l → ⊥)
    → ((e : ℕ) → Contains short e → Contains short' e) → (length r.lits ≤ 1 → Contains short' (length rows)) → All (IsShort (rows ++ r ∷ [])) short' → IsKept (rows ++ r ∷ []) w' t head' short'
kept_add rows w w' t head head' short short' r k can long below above unseen more new all = record {
  can = can;
  head_within = omega (arith, below, k.head_within);
  excused = excused_add rows r (take head (lits_of t.steps)) (take head' (lits_of t.steps)) (lits_of t.steps) (λ l h f. absurd (unseen l h f)) (further head' head below) k.excused;
  head_above = above;
  settled = λ j v.
      let front = take (get_or t.limits j 0) (lits_of t.steps) in
      excused_add rows r front front front (λ l h f. absurd (unseen l h (further (get_or t.limits j 0) head' (above j v) l f))) (λ l f. f) (k.settled j v);
  short_known = known_add rows r short short' k.short_known more new;
  short_within = all;
  grounded = λ i d v. grounded_add (take i t.steps) (get_or t.steps i d) (k.grounded i d v);
  short_true = λ j v. by_place_push (λ e x. length x.lits ≤ 1 → IsSatisfied (take (get_or t.limits j 0) (lits_of t.steps)) x.lits) rows r no_row (k.short_true j v) (λ s. absurd (omega (arith, s, long (omega (arith, v)))));
}
  where
    further : (m n : ℕ) → m ≤ n → (l : LitValue) → IsFalse (take m (lits_of t.steps)) l → IsFalse (take n (lits_of t.steps)) l
    further m n h l f = in_front m (take n (lits_of t.steps)) (negation l) (subst (λ xs. Contains xs (negation l)) (sym (take-take m n (lits_of t.steps) h)) f)

    grounded_add : (before : List StepValue) (step : StepValue) → IsGrounded (clauses_of rows) t.limits before step → IsGrounded (clauses_of (rows ++ r ∷ [])) t.limits before step
    grounded_add before step g = ⊎_elim (λ d. inl d)
        (λ i.
        let cs : clauses_of (rows ++ r ∷ []) ≡ clauses_of rows ++ r.lits ∷ [] = map_push (λ x. x.lits) rows r in
        let at : get_or (clauses_of (rows ++ r ∷ [])) i.id [] ≡ get_or (clauses_of rows) i.id [] = ap (λ xs. get_or xs i.id []) cs ∙ get_or_append_left (clauses_of rows) (r.lits ∷ []) [] i.id i.within in
        inr (record {
          id = i.id;
          reason = i.reason;
          within = omega (arith, i.within, ap length cs, length_push (clauses_of rows) r.lits);
          unit = subst (λ xs. IsUnit (lits_of before) xs step.lit) (sym at) i.unit;
          was_due = subst (IsDue t.limits before) (sym at) i.was_due;
        }))
        g

pub watched_more : (rows : List RowValue) (w w' : ListsValue) → IsWatched rows w → w'.lists ≡ w.lists → ((k : ℕ) → get_or w.uses k 0 ≤ get_or w'.uses k 0) → HasRoom w' → IsWatched rows w'
watched_more rows w w' i e more has = grind arith

pub kept_lists : (rows : List RowValue) (w w' : ListsValue) (t : TrailValue) (head : ℕ) (short : List ℕ) → IsKept rows w t head short → AreLists t.vars w' → IsWatched rows w' → w'.watches ≡ w.watches → IsKept rows w' t head short
kept_lists rows w w' t head short k a i same = grind (arith, subst (AreBlocked (clauses_of rows)) (sym same) k.can.blocked)

-- the clause makes a literal true, and so nothing waits on its account
pub kept_learned : (rows : List RowValue) (r : RowValue) (w w' : ListsValue) (t : TrailValue) (head below : ℕ) (short short' : List ℕ) (x : LitValue) → IsKept rows w t head short → IsKept (rows ++ r ∷ []) w' t below short' → IsUnit (lits_of t.steps) r.lits x → IsDue t.limits t.steps r.lits
    → IsKept (rows ++ r ∷ []) w' (record { vars = t.vars; steps = t.steps ++ record { lit = x; reason = Some (length rows) } ∷ []; limits = t.limits }) head short'
kept_learned rows r w w' t head below short short' x old new u d =
    let within : head ≤ length (t.steps ++ step ∷ []) = omega (arith, old.head_within, length_push t.steps step) in
    let excused : Excused (rows ++ r ∷ []) (take head (lits_of (t.steps ++ step ∷ []))) (lits_of (t.steps ++ step ∷ [])) = excused_add rows r (take head (lits_of t.steps)) (take head (lits_of (t.steps ++ step ∷ []))) (lits_of (t.steps ++ step ∷ []))
    (λ l h f. (x, u.stands, subst (λ xs. Contains xs x) (sym pushed) (Contains-push (lits_of t.steps) x)))
    (λ l f. subst (λ xs. IsFalse xs l) front f) (λ e l h f. let s = old.excused e l h f in (s.0, s.1, further s.0 s.2)) in
    assumption (k, old, within, excused)
  where
    step : StepValue
    step = record { lit = x; reason = Some (length rows) }

    pushed : lits_of (t.steps ++ step ∷ []) ≡ lits_of t.steps ++ x ∷ []
    pushed = map_push (λ s. s.lit) t.steps step

    here' : get_or (clauses_of (rows ++ r ∷ [])) (length rows) [] ≡ r.lits
    here' = ap (λ xs. get_or xs (length rows) []) (map_push (λ y. y.lits) rows r) ∙ get_or_push (clauses_of rows) r.lits [] (length rows) (length-map rows (λ y. y.lits))

    k : IsKept (rows ++ r ∷ []) w' (record { vars = t.vars; steps = t.steps ++ step ∷ []; limits = t.limits }) below short'
    k = kept_assert (rows ++ r ∷ []) w' t below short' x (length rows) new (omega (arith, length-map (rows ++ r ∷ []) (λ y. y.lits), length_push rows r)) (subst (λ xs. IsUnit (lits_of t.steps) xs x) (sym here') u) (subst (IsDue t.limits t.steps) (sym here') d)

    front : take head (lits_of (t.steps ++ step ∷ [])) ≡ take head (lits_of t.steps)
    front = ap (take head) pushed ∙ take-append-le head (lits_of t.steps) (x ∷ []) (omega (arith, old.head_within, lits_length t.steps))

    further : (l : LitValue) → Contains (lits_of t.steps) l → Contains (lits_of (t.steps ++ step ∷ [])) l
    further l c = subst (λ xs. Contains xs l) (sym pushed) (Contains-append_left (lits_of t.steps) (x ∷ []) l c)

-- rows with one that is a row
pub rows_add : (vars : ℕ) (rows : List RowValue) (r : RowValue) → AreRows vars rows → IsRow vars r → AreRows vars (rows ++ r ∷ [])
rows_add vars rows r are is = by_place_push (λ e x. IsRow vars x) rows r no_row are is

-- the short clauses stay so
pub shorts_add : (rows : List RowValue) (r : RowValue) (short : List ℕ) → All (IsShort rows) short → All (IsShort (rows ++ r ∷ [])) short
shorts_add rows r short all k d w = grind (arith, all k d w, length_push, get_or_append_left)

pub shorts_push : (rows : List RowValue) (r : RowValue) (short : List ℕ) → All (IsShort rows) short → length r.lits ≤ 1 → All (IsShort (rows ++ r ∷ [])) (short ++ length rows ∷ [])
shorts_push rows r short all h = All-push (IsShort (rows ++ r ∷ [])) short (length rows) (shorts_add rows r short all) (record { within = omega (arith, length_push rows r); short = omega (arith, h, ap (λ x. length x.lits) (row_new rows r)) })
