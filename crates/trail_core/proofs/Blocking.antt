-- Entries of watch lists and their blocking literals, as entries and clauses come.
use Rattle.std.proofs.lemmas.{Bool.Decides.nat_tests, Grind.common_steps}
use Rattle.std.proofs.Common.{◌≡◌, ◌≢◌, ◌==◌, ℕ, ◌-◌, ◌<◌, true, false, List, [], ◌∷◌, ◌++◌, map, length, get_or, set, refl, sym, ◌∙◌, subst, inl, inr, ⊎_elim, arith, ◌⊎◌, Contains, swap_remove}
use Rattle.std.proofs.lemmas.{Bool.{eqb-true, cases_lt, false≢true}, List.Elements.{All-contains, Contains-push_cases}}
use Rattle.std.proofs.lemmas.List.{get_or-set_same, get_or-set_other, get_or_append_left, get_or_default, get_or_past, get_or_push, length-set, length-take-le, get_or-take, length-map, get_or-map, map-set, map_push, take-map}
use Rattle.cnf_formula.{specs.{Literals.{LitValue, code_of}, Formulas.IsAbout}, proofs.Codes.same_code}
use Rattle.trail_core.specs.{Trails.TrailValue, Search.{clauses_of, CanScan}, Watching.{RowValue, WatchValue, ListsValue, watch_count, row_at, list_at, watches_at, IsWatched, IsBlocked, AreBlocked, IsOnlyNew}}
use Rattle.trail_core.proofs.{Places.at_set, Watching.{entry_watches, watch_within, watch_long, watch_which}, Visits.lits_at}

-- ---- elements of lists that change

pub in_set : {X : Type 0} (xs : List X) (i : ℕ) (y x : X) → i < length xs → Contains (set xs i y) x → Contains xs x ⊎ (x ≡ y)
in_set xs i y x w c = grind (arith, get_or-set_same, get_or-set_other, length-set)

pub in_removed : {X : Type 0} (xs : List X) (i : ℕ) (d x : X) → i < length xs → Contains (swap_remove xs i d) x → Contains xs x
in_removed xs i d x w c = grind (arith, get_or-take, get_or-set_same, get_or-set_other, length-take-le, length-set, get_or_default)

pub map_removed : {X Y : Type 0} (f : X → Y) (xs : List X) (i : ℕ) (d : X) → i < length xs → map f (swap_remove xs i d) ≡ swap_remove (map f xs) i (f d)
map_removed f xs i d w = cc (length-map xs f, get_or-map f xs (length xs - 1) d (f d) (omega (arith, w)), take-map f (length xs - 1) (set xs i (get_or xs (length xs - 1) d)), map-set f xs i (get_or xs (length xs - 1) d))

-- ---- one list of entries changes

pub only_new : (old : List (List WatchValue)) (at : ℕ) (ys : List WatchValue) (watch : WatchValue) → at < length old → ((w : WatchValue) → Contains ys w → Contains (watches_at old at) w ⊎ (w ≡ watch)) → IsOnlyNew old (set old at ys) at watch
only_new old at ys watch h put k w = at_set (λ n zs. Contains zs w → Contains (watches_at old n) w ⊎ ((n ≡ at) × (w ≡ watch))) old at ys [] h (λ n d c. inl c) (λ c. ⊎_elim (λ o. inl o) (λ s. inr (refl, s)) (put w c)) k

pub only_less : (old : List (List WatchValue)) (at : ℕ) (ys : List WatchValue) → at < length old → ((w : WatchValue) → Contains ys w → Contains (watches_at old at) w) → (k : ℕ) (w : WatchValue) → Contains (watches_at (set old at ys) k) w → Contains (watches_at old k) w
only_less old at ys h put k w = at_set (λ n zs. Contains zs w → Contains (watches_at old n) w) old at ys [] h (λ n d c. c) (put w) k

pub push_entry : (xs : List WatchValue) (y w : WatchValue) → Contains (xs ++ y ∷ []) w → Contains xs w ⊎ (w ≡ y)
push_entry xs y w c = ⊎_elim (λ h. inl h) (λ e. inr (sym e)) (Contains-push_cases xs y w c)

pub less_new : (old mid new : List (List WatchValue)) (at : ℕ) (watch : WatchValue) → ((k : ℕ) (w : WatchValue) → Contains (watches_at mid k) w → Contains (watches_at old k) w) → IsOnlyNew mid new at watch → IsOnlyNew old new at watch
less_new old mid new at watch less only k w c = ⊎_elim (λ o. inl (less k w o)) (λ e. inr e) (only k w c)

-- ---- the blocking literals of entries

pub blocked_new : (clauses : List (List LitValue)) (old new : List (List WatchValue)) (at : ℕ) (watch : WatchValue) → AreBlocked clauses old → IsOnlyNew old new at watch → IsBlocked (get_or clauses watch.clause []) at watch → AreBlocked clauses new
blocked_new clauses old new at watch b only is k w c = ⊎_elim
    (λ o. b k w o)
    (λ e. subst (λ n. IsBlocked (get_or clauses w.clause []) n w) (sym e.0) (subst (λ v. IsBlocked (get_or clauses v.clause []) at v) (sym e.1) is))
    (only k w c)

pub blocked_longer : (clauses : List (List LitValue)) (clause : List LitValue) (watches : List (List WatchValue)) → AreBlocked clauses watches → AreBlocked (clauses ++ clause ∷ []) watches
blocked_longer clauses clause watches b k w c = grind (arith, b k w c, get_or_append_left, get_or_past, cases_lt w.clause (length clauses))

-- an entry that is not marked needs but a literal of its clause
pub long_blocked : (rows : List RowValue) (id k : ℕ) (w : WatchValue) → Contains (row_at rows id).lits w.blocker → w.pair ≡ false → IsBlocked (get_or (clauses_of rows) id []) k w
long_blocked rows id k w stands long = grind (arith, lits_at rows id, false≢true)

-- a clause of two literals has no other
two_only : (lits : List LitValue) (a b : LitValue) → length lits ≡ 2 → Contains lits a → Contains lits b → a ≢ b → (o : LitValue) → Contains lits o → (o ≡ a) ⊎ (o ≡ b)
two_only lits a b n ca cb d o co = grind (arith, get_or_default)

-- the entry of a new clause in the list of one of the two literals that it watches
pub entry_blocked : (lits : List LitValue) (a b : LitValue) (id : ℕ) → Contains lits a → Contains lits b → a ≢ b → IsBlocked lits (code_of a) (record { clause = id; pair = length lits == 2; blocker = b })
entry_blocked lits a b id ca cb d = grind (arith, nat_tests, common_steps, ⊎_elim, two_only, eqb-true)

pub blocked_held : (rows : List RowValue) (r : RowValue) (old mid new : List (List WatchValue)) (id : ℕ) → AreBlocked (clauses_of rows) old → id ≡ length rows → Contains r.lits r.first → Contains r.lits r.second → r.first ≢ r.second
    → IsOnlyNew old mid (code_of r.first) (record { clause = id; pair = length r.lits == 2; blocker = r.second }) → IsOnlyNew mid new (code_of r.second) (record { clause = id; pair = length r.lits == 2; blocker = r.first }) → AreBlocked (clauses_of (rows ++ r ∷ [])) new
blocked_held rows r old mid new id b is first second d one two =
    let here : get_or (clauses_of rows ++ r.lits ∷ []) id [] ≡ r.lits = get_or_push (clauses_of rows) r.lits [] id (length-map rows (λ y. y.lits) ∙ sym is) in
    let a : WatchValue = record { clause = id; pair = length r.lits == 2; blocker = r.second } in
    let c : WatchValue = record { clause = id; pair = length r.lits == 2; blocker = r.first } in
    let longer : AreBlocked (clauses_of rows ++ r.lits ∷ []) old = blocked_longer (clauses_of rows) r.lits old b in
    let half : AreBlocked (clauses_of rows ++ r.lits ∷ []) mid = blocked_new (clauses_of rows ++ r.lits ∷ []) old mid (code_of r.first) a longer one (subst (λ ls. IsBlocked ls (code_of r.first) a) (sym here) (entry_blocked r.lits r.first r.second id first second d)) in
    let whole : AreBlocked (clauses_of rows ++ r.lits ∷ []) new = blocked_new (clauses_of rows ++ r.lits ∷ []) mid new (code_of r.second) c half two (subst (λ ls. IsBlocked ls (code_of r.second) c) (sym here) (entry_blocked r.lits r.second r.first id second first (λ e. d (sym e)))) in
    subst (λ cs. AreBlocked cs new) (sym (map_push (λ y. y.lits) rows r)) whole

pub blocked_short : (rows : List RowValue) (r : RowValue) (old new : List (List WatchValue)) → AreBlocked (clauses_of rows) old → new ≡ old → AreBlocked (clauses_of (rows ++ r ∷ [])) new
blocked_short rows r old new b e = subst (AreBlocked (clauses_of (rows ++ r ∷ []))) (sym e) (subst (λ cs. AreBlocked cs old) (sym (map_push (λ y. y.lits) rows r)) (blocked_longer (clauses_of rows) r.lits old b))

-- ---- what a visit knows of the clause of an entry

pub record Visited (vars : ℕ) (rows : List RowValue) (falsified : LitValue) (w : WatchValue) : Type 0 where
  pub within : w.clause < length rows
  pub of_vars : IsAbout vars w.blocker
  pub own : Contains (row_at rows w.clause).lits w.blocker
  pub own_false : Contains (row_at rows w.clause).lits falsified
  pub pair : w.pair ≡ true → (o : LitValue) → Contains (row_at rows w.clause).lits o → (o ≡ w.blocker) ⊎ (o ≡ falsified)

pub visited_by : (rows : List RowValue) (lists : ListsValue) (t : TrailValue) (falsified : LitValue) (place : ℕ) (w : WatchValue) → CanScan rows lists t → place < length (list_at lists.lists (code_of falsified)) → w.clause ≡ get_or (list_at lists.lists (code_of falsified)) place 0
    → Contains (watches_at lists.watches (code_of falsified)) w → Visited t.vars rows falsified w
visited_by rows lists t falsified place w can within named stands =
    let k = code_of falsified in
    let r = row_at rows w.clause in
    let watches : 0 < watch_count r k = subst (λ e. 0 < watch_count (row_at rows e) k) (sym named) (entry_watches rows lists k place can.watched within) in
    let inside : w.clause < length rows = watch_within rows w.clause k watches in
    let row = can.are_rows w.clause inside in
    let blocked = can.blocked k w stands in
    let own : Contains r.lits w.blocker = subst (λ ls. Contains ls w.blocker) (sym (lits_at rows w.clause)) blocked.stands in
    grind (arith, entry_watches rows lists k place can.watched within, watch_long r k watches, lits_at rows w.clause, All-contains (IsAbout t.vars) r.lits w.blocker row.within own, watch_which r k watches, same_code r.first falsified, same_code r.second falsified, same_code, lits_at)

-- ---- lists of the same clauses

pub watched_same : (rows : List RowValue) (w w' : ListsValue) → IsWatched rows w → w'.lists ≡ w.lists → w'.rooms ≡ w.rooms → w'.uses ≡ w.uses → IsWatched rows w'
watched_same rows w w' i l r u = grind arith

pub can_replace : (rows : List RowValue) (w w' : ListsValue) (t : TrailValue) (at : ℕ) (watch : WatchValue) → CanScan rows w t → w'.lists ≡ w.lists → w'.rooms ≡ w.rooms → w'.uses ≡ w.uses → IsOnlyNew w.watches w'.watches at watch → IsBlocked (get_or (clauses_of rows) watch.clause []) at watch → CanScan rows w' t
can_replace rows w w' t at watch c l r u only is = grind (arith, watched_same rows w w' c.watched l r u, blocked_new (clauses_of rows) w.watches w'.watches at watch c.blocked only is)
