-- What a core keeps, as it propagates.
use Rattle.std.proofs.{Common.{◌≡◌, ℕ, ◌+◌, ◌<◌, ◌≤◌, List, [], ◌∷◌, ◌++◌, length, get_or, take, refl, sym, ap, ◌∙◌, subst, inl, inr, ⊎_elim, arith, ◌⊎◌, Contains, All}, lemmas.{Grind.common_steps, Bool.cases_lt}}
use Rattle.std.proofs.{lemmas.List.{Elements.{Contains-get_or, All-contains}, map-append, take-append-le, take_at, take_all, get_or-take, get_or-map, get_or_append_left, length-append, length-map, length-take-le}, Math.Bool.not-not}
use Rattle.cnf_formula.specs.Literals.{LitValue, negation, code_of}
use Rattle.trail_core.specs.{Assigned.{IsFalse, IsConsistent}, Trails.{StepValue, TrailValue, lits_of}, Search.Implied.{none, more}, Meaning.IsClosed, Watching.{RowValue, ListsValue, watch_count, row_at, AreRows, AreLists}}
use Rattle.trail_core.specs.{Search.{IsSatisfied, IsFalsified, IsUnit, Implied, HasLit, clauses_of, CanScan}, Kept.{Excused, ShortTrue, IsDue, IsGrounded, IsKept, IsDone}}
use Rattle.trail_core.proofs.{Trails.all_counted, Watching.{hit_yes, count_long}, Scans.{implied_front, implied_grows, implied_weaker, lits_same}}
use Rattle.list_laws.proofs.Places.{by_place_push}

-- ---- fronts of the trail

pub negated_twice : (l : LitValue) → negation (negation l) ≡ l
negated_twice l = λ i. record { var = l.var; positive = not-not l.positive i }

pub in_front : {X : Type 0} (n : ℕ) (xs : List X) (l : X) → Contains (take n xs) l → Contains xs l
in_front n xs l c = grind (arith, common_steps)

pub lits_length : (steps : List StepValue) → length (lits_of steps) ≡ length steps
lits_length steps = length-map steps (λ s. s.lit)

pub implied_longer : {clauses : List (List LitValue)} {due : List StepValue → List LitValue → Type 0} {ss ts : List StepValue} → Implied clauses due ss ts → length ss ≤ length ts
implied_longer {clauses} {due} {ss} {ts} i = let r = implied_front i in omega (arith, ap length r.1, length-append ss r.0)

pub front_same : {clauses : List (List LitValue)} {due : List StepValue → List LitValue → Type 0} {ss ts : List StepValue} → Implied clauses due ss ts → (n : ℕ) → n ≤ length ss → take n (lits_of ts) ≡ take n (lits_of ss)
front_same {clauses} {due} {ss} {ts} i n w = grind (arith, implied_front, map-append, take-append-le, lits_length)

-- a literal of the trail stays at its place
pub stays_at : {clauses : List (List LitValue)} {due : List StepValue → List LitValue → Type 0} {ss ts : List StepValue} → Implied clauses due ss ts → (k : ℕ) (d : LitValue) → k < length ss → get_or (lits_of ts) k d ≡ get_or (lits_of ss) k d
stays_at {clauses} {due} {ss} {ts} i k d w = grind (arith, implied_front, map-append, get_or_append_left, lits_length)

-- ---- reasons

pub grounded_more : {clauses : List (List LitValue)} (limits : List ℕ) {ss ts : List StepValue} → ((k : ℕ) (d : StepValue) → k < length ss → IsGrounded clauses limits (take k ss) (get_or ss k d)) → Implied clauses (IsDue limits) ss ts
    → (k : ℕ) (d : StepValue) → k < length ts → IsGrounded clauses limits (take k ts) (get_or ts k d)
grounded_more limits g (none ss) k d = g k d
grounded_more {clauses} limits g (more ss later step i q) k d = by_place_push (λ n s. IsGrounded clauses limits (take n (later ++ step ∷ [])) s) later step d
    (λ n v. subst (λ xs. IsGrounded clauses limits xs (get_or later n d)) (sym (take-append-le n later (step ∷ []) (omega (arith, v)))) (grounded_more limits g i n d v))
    (subst (λ xs. IsGrounded clauses limits xs step) (sym (take_at later (step ∷ []) (length later) refl)) (inr q)) k

-- ---- a scan, or the short clauses

pub kept_extend : (rows rows' : List RowValue) (w w' : ListsValue) (t t' : TrailValue) (head : ℕ) (short : List ℕ) → IsKept rows w t head short → CanScan rows' w' t' → t'.limits ≡ t.limits → length rows' ≡ length rows → clauses_of rows' ≡ clauses_of rows
    → ((e k : ℕ) → 0 < watch_count (row_at rows' e) k → (0 < watch_count (row_at rows e) k) ⊎ ((l : LitValue) → code_of l ≡ k → IsFalse (lits_of t.steps) l → ⊥))
    → Implied (clauses_of rows) (IsDue t.limits) t.steps t'.steps → IsKept rows' w' t' head short
kept_extend rows rows' w w' t t' head short k can limits count same watches implied =
    let now : List ℕ → TrailValue = λ ls. record { vars = t'.vars; steps = t'.steps; limits = ls } in
    let before = lits_of t.steps in
    let after = lits_of t'.steps in
    let low : (j : ℕ) → j < length t.limits → get_or t.limits j 0 ≤ length t.steps = λ j v. omega (arith, k.head_above j v, k.head_within) in
    let stays : (j : ℕ) → j < length t.limits → (l : LitValue) → Contains (take (get_or t.limits j 0) before) l → Contains (take (get_or t.limits j 0) after) l = λ j v l c. subst (λ xs. Contains xs l) (sym (front_same implied (get_or t.limits j 0) (low j v))) c in
    let own : (e : ℕ) (l : LitValue) → Contains (row_at rows e).lits l → Contains (row_at rows' e).lits l = λ e l c. subst (λ xs. Contains xs l) (sym (lits_same rows rows' e same)) c in
    let shorter : (e : ℕ) → length (row_at rows' e).lits ≡ length (row_at rows e).lits = λ e. ap length (lits_same rows rows' e same) in
    let ex : (n : ℕ) (trues trues' : List LitValue) → n ≤ length t.steps → ((l : LitValue) → Contains trues l → Contains trues' l) → Excused rows (take n before) trues → Excused rows' (take n after) trues' =
    λ n trues trues' v more old e l h f.
    let g = subst (λ xs. Contains xs (negation l)) (front_same implied n v) f in
    let s = old e l (⊎_elim (λ y. y) (λ y. absurd (y l refl (in_front n before (negation l) g))) (watches e (code_of l) h)) g in
    (s.0, own e s.0 s.1, more s.0 s.2) in
    subst (λ ls. IsKept rows' w' (now ls) head short) (sym limits) (record {
      can = subst (λ ls. CanScan rows' w' (now ls)) limits can;
      head_within = omega (arith, k.head_within, implied_longer implied);
      excused = ex head before after k.head_within (implied_grows implied) k.excused;
      head_above = k.head_above;
      settled = λ j v. ex (get_or t.limits j 0) (take (get_or t.limits j 0) before) (take (get_or t.limits j 0) after) (low j v) (stays j v) (k.settled j v);
      short_known = λ e v s. k.short_known e (omega (arith, v, count)) (omega (arith, s, shorter e));
      short_within = λ i d v. let s = k.short_within i d v in record { within = omega (arith, s.within, count); short = omega (arith, s.short, shorter (get_or short i d)) };
      grounded = subst (λ cs. (i : ℕ) (d : StepValue) → i < length t'.steps → IsGrounded cs t.limits (take i t'.steps) (get_or t'.steps i d)) (sym same) (grounded_more t.limits k.grounded implied);
      short_true = λ j v e n s. let x = k.short_true j v e (omega (arith, n, count)) (omega (arith, s, shorter e)) in (x.0, own e x.0 x.1, stays j v x.0 x.2);
    })

-- what a scan makes true is due
pub scan_due : {clauses : List (List LitValue)} {ss ts : List StepValue} → (limits : List ℕ) (head : ℕ) (falsified : LitValue) → head < length ss → ((d : LitValue) → falsified ≡ negation (get_or (lits_of ss) head d)) → ((j : ℕ) → j < length limits → get_or limits j 0 ≤ head)
    → Implied clauses (HasLit falsified) ss ts → Implied clauses (IsDue limits) ss ts
scan_due {clauses} {ss} {ts} limits head falsified w is above = implied_weaker (λ before clause i h.
    let n : length ss ≤ length before = implied_longer i in
    let at : get_or (lits_of before) head falsified ≡ negation falsified = stays_at i head falsified w ∙ sym (negated_twice (get_or (lits_of ss) head falsified)) ∙ ap negation (sym (is falsified)) in
    inr (
      falsified,
      head,
      h,
      omega (arith, w, n),
      at,
      all_counted limits head above ∙ sym (all_counted limits (length before) (λ j v. omega (arith, above j v, w, n))),
    ))

-- ---- one literal of the trail further

pub kept_next : (rows : List RowValue) (w : ListsValue) (t : TrailValue) (head : ℕ) (short : List ℕ) (falsified : LitValue) → IsKept rows w t head short → head < length t.steps → ((d : LitValue) → falsified ≡ negation (get_or (lits_of t.steps) head d))
    → ((e : ℕ) → 0 < watch_count (row_at rows e) (code_of falsified) → IsSatisfied (lits_of t.steps) (row_at rows e).lits) → IsKept rows w t (head + 1) short
kept_next rows w t head short falsified k v is handled =
    let within : head + 1 ≤ length t.steps = omega (arith, v) in
    let above : (j : ℕ) → j < length t.limits → get_or t.limits j 0 ≤ head + 1 = λ j u. omega (arith, k.head_above j u) in
    let excused : Excused rows (take (head + 1) (lits_of t.steps)) (lits_of t.steps) = λ e l h f.
    let here : (falsified ≡ l) ⊎ IsFalse (take head (lits_of t.steps)) l = grind (arith, lits_length t.steps, length-take-le, get_or-take, is (negation l), negated_twice l) in
    ⊎_elim (λ y. handled e (subst (λ z. 0 < watch_count (row_at rows e) (code_of z)) (sym y) h)) (k.excused e l h) here in
    assumption (k, within, above, excused)

-- ---- closed

-- each clause is one of a row
pub row_of_clause : (rows : List RowValue) (clause : List LitValue) → Contains (clauses_of rows) clause → (e : ℕ) × (e < length rows) × ((row_at rows e).lits ≡ clause)
row_of_clause rows clause c = grind (arith, get_or-map, length-map)

pub closed_by : (vars : ℕ) (rows : List RowValue) (trues : List LitValue) → AreRows vars rows → IsConsistent trues → Excused rows trues trues → ShortTrue rows trues → IsClosed trues (clauses_of rows)
closed_by vars rows trues are con ex sh = record {
  not_falsified = λ clause c f. let r = row_of_clause rows clause c in fal r.0 r.1 (subst (IsFalsified trues) (sym r.2) f);
  not_unit = λ clause l c u. let r = row_of_clause rows clause c in uni r.0 r.1 l (subst (λ xs. IsUnit trues xs l) (sym r.2) u);
}
  where
    -- a clause is satisfied where one of the literals that it watches is false
    sat : (e : ℕ) → e < length rows → (1 < length (row_at rows e).lits → IsFalse trues (row_at rows e).first ⊎ IsFalse trues (row_at rows e).second) → IsSatisfied trues (row_at rows e).lits
    sat e w f = ⊎_elim
        (λ h. ⊎_elim (ex e (row_at rows e).first (grind (arith, count_long, hit_yes))) (ex e (row_at rows e).second (grind (arith, count_long, hit_yes))) (f h))
        (sh e w)
        (cases_lt 1 (length (row_at rows e).lits))

    fal : (e : ℕ) → e < length rows → IsFalsified trues (row_at rows e).lits → ⊥
    fal e w f = let s = sat e w (λ h. inl (f (row_at rows e).first ((are e w).first h))) in con s.0 s.2 (f s.0 s.1)

    uni : (e : ℕ) → e < length rows → (l : LitValue) → IsUnit trues (row_at rows e).lits l → ⊥
    uni e w l u =
        let s = sat e w (λ h. ⊎_elim
        (λ i. ⊎_elim (λ j. absurd ((are e w).differ h (i ∙ sym j))) (λ g. inr g) (u.others (row_at rows e).second ((are e w).second h)))
        (λ g. inl g)
        (u.others (row_at rows e).first ((are e w).first h))) in
        ⊎_elim (λ i. u.open_.not_true (subst (λ x. Contains trues x) i s.2)) (λ g. con s.0 s.2 g) (u.others s.0 s.1)

pub done_by : (rows : List RowValue) (w : ListsValue) (t : TrailValue) (head : ℕ) (short : List ℕ) → IsKept rows w t head short → length t.steps ≤ head → ShortTrue rows (lits_of t.steps) → IsConsistent (lits_of t.steps) → IsDone rows t head
done_by rows w t head short k h sh con =
    let all : head ≡ length t.steps = omega (arith, h, k.head_within) in
    let whole : take head (lits_of t.steps) ≡ lits_of t.steps = take_all head (lits_of t.steps) (omega (arith, all, lits_length t.steps)) in
    record {
      all = all;
      short = sh;
      closed = closed_by t.vars rows (lits_of t.steps) k.can.are_rows con (subst (λ xs. Excused rows xs (lits_of t.steps)) whole k.excused) sh;
    }

-- what is implied by a closed trail
pub implied_closed : {clauses : List (List LitValue)} {due : List StepValue → List LitValue → Type 0} {ss ts : List StepValue} → IsClosed (lits_of ss) clauses → Implied clauses due ss ts → ts ≡ ss
implied_closed c (none ss) = refl
implied_closed {clauses} c (more ss later step i q) =
    let e = implied_closed c i in
    absurd (c.not_unit (get_or clauses q.id []) step.lit (Contains-get_or clauses q.id [] q.within) (subst (λ xs. IsUnit (lits_of xs) (get_or clauses q.id []) step.lit) e q.unit))

pub nil_limits : (limits : List ℕ) → length limits ≡ 0 → limits ≡ []
nil_limits [] e = refl
nil_limits (x ∷ limits) e = absurd (omega (arith, e))

-- ---- before the first scan: the short clauses are settled on level 0, and were so above it

pub record IsStarted (rows : List RowValue) (w : ListsValue) (t : TrailValue) (head : ℕ) (short : List ℕ) (t' : TrailValue) : Type 0 where
  pub kept : IsKept rows w t' head short
  pub vars : t'.vars ≡ t.vars
  pub limits : t'.limits ≡ t.limits
  pub implied : Implied (clauses_of rows) (IsDue t.limits) t.steps t'.steps
  pub short_true : ShortTrue rows (lits_of t'.steps)

pub kept_settled : (rows : List RowValue) (w : ListsValue) (t t' : TrailValue) (head : ℕ) (short : List ℕ) → IsKept rows w t head short → t'.vars ≡ t.vars → t'.limits ≡ t.limits → length t.limits ≡ 0 → Implied (clauses_of rows) (IsDue []) t.steps t'.steps → IsKept rows w t' head short
kept_settled rows w t t' head short k vars limits bottom implied =
    kept_extend rows rows w w t t' head short k
    (record { are_lists = subst (λ n. AreLists n w) (sym vars) k.can.are_lists; are_rows = subst (λ n. AreRows n rows) (sym vars) k.can.are_rows; watched = k.can.watched; blocked = k.can.blocked })
    limits refl refl (λ e n h. inl h) (subst (λ ls. Implied (clauses_of rows) (IsDue ls) t.steps t'.steps) (sym (nil_limits t.limits bottom)) implied)

pub started_low : (rows : List RowValue) (w : ListsValue) (t t' : TrailValue) (head : ℕ) (short : List ℕ) → IsKept rows w t head short → t'.vars ≡ t.vars → t'.limits ≡ t.limits → length t.limits ≡ 0 → Implied (clauses_of rows) (IsDue []) t.steps t'.steps
    → All (λ e. IsSatisfied (lits_of t'.steps) (row_at rows e).lits) short → IsStarted rows w t head short t'
started_low rows w t t' head short k vars limits bottom implied all = record {
  kept = kept_settled rows w t t' head short k vars limits bottom implied;
  vars = vars;
  limits = limits;
  implied = subst (λ ls. Implied (clauses_of rows) (IsDue ls) t.steps t'.steps) (sym (nil_limits t.limits bottom)) implied;
  short_true = λ e v s. All-contains (λ i. IsSatisfied (lits_of t'.steps) (row_at rows i).lits) short e all (k.short_known e v s);
}

pub started_high : (rows : List RowValue) (w : ListsValue) (t : TrailValue) (head : ℕ) (short : List ℕ) → IsKept rows w t head short → 0 < length t.limits → IsStarted rows w t head short t
started_high rows w t head short k above = record {
  kept = k;
  vars = refl;
  limits = refl;
  implied = none t.steps;
  short_true = λ e v s. let h = k.short_true 0 above e v s in (h.0, h.1, in_front (get_or t.limits 0 0) (lits_of t.steps) h.0 h.2);
}
