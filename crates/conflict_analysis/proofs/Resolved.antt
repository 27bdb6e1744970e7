-- A step is taken for its reason.
use Rattle.std.proofs.Common.{zero, suc, ◌≡◌, ℕ, ◌+◌, ◌<◌, ◌≤◌, ℤ, Bool, true, false, List, [], ◌∷◌, ◌++◌, Option, length, get_or, set, take, cond, refl, sym, ap, ◌∙◌, subst, inl, inr, ⊎_elim, arith, eq-eqb, ◌≢◌, ◌⊎◌, Contains, Some, IsSome, map, filter, pos, reverse}
use Rattle.std.proofs.lemmas.{Bool.{cases_eq, ne_eqb}, List.{Elements.All-contains, get_or-set_other, get_or_default, reverse-append, take-map}}
use Rattle.cnf_formula.specs.{Literals.{LitValue, negation}, Formulas.IsAbout}
use Rattle.trail_core.{specs.{Assigned.{IsFalse, level_at}, Trails.lits_of, Search.IsImplied, Kept.{IsDue, AreGrounded}, Meaning.{CoreValue, trues}, Formed.IsTrail}, proofs.Keeping.{in_front}}
use Rattle.conflict_analysis.specs.{Learning.{number_of, hints_of}, inner.Walks.{IsStep, without, IsTaken, HasWalked, HasSameOpen, HasSameAbove}}
use Rattle.conflict_analysis.specs.Met.{WalkValue, step_at, no_step, lit_at, mark_of, resolved_by, IsSeen, IsSorted, IsReasoned, IsPassed, IsOnward}
use Rattle.conflict_analysis.proofs.{Levels.level_grows, Marked.{false_before, lit_read, lit_about, same_place, mark_same, marked_set, noted_same, kept_set}}

-- ---- a test that passes at one place more, the first at which it passes

filter_same : {X : Type 0} (p q : X → Bool) (xs : List X) (d : X) → ((k : ℕ) → k < length xs → p (get_or xs k d) ≡ q (get_or xs k d)) → filter p xs ≡ filter q xs
filter_same p q [] d h = refl
filter_same p q (x ∷ xs) d h =
    let r = filter_same p q xs d (λ k w. h (suc k) (omega (arith, w))) in
    let e : p x ≡ q x = h 0 (omega arith) in
    rw e (ap (λ ys. cond (q x) (x ∷ ys) ys) r)

filter_first : {X : Type 0} (p q : X → Bool) (xs : List X) (n : ℕ) (d : X) → n < length xs → ((k : ℕ) → k < n → (p (get_or xs k d) ≡ false) × (q (get_or xs k d) ≡ false)) → p (get_or xs n d) ≡ true → q (get_or xs n d) ≡ false → ((k : ℕ) → n < k → k < length xs → p (get_or xs k d) ≡ q (get_or xs k d)) → filter p xs ≡ get_or xs n d ∷ filter q xs
filter_first p q [] n d w low yes' no' high = absurd (omega (arith, w))
filter_first p q (x ∷ xs) zero d w low yes' no' high =
    rw yes' (rw no' (ap (λ ys. x ∷ ys) (filter_same p q xs d (λ k v. high (suc k) (omega arith) (omega (arith, v))))))
filter_first p q (x ∷ xs) (suc n) d w low yes' no' high =
    let f = low 0 (omega arith) in
    rw (f.0) (rw (f.1) (filter_first p q xs n d (omega (arith, w)) (λ k v. low (suc k) (omega (arith, v))) yes' no' (λ k v u. high (suc k) (omega (arith, v)) (omega (arith, u)))))

-- ---- the step of a literal

-- the step of a literal at a place is known by the literal
pub step_read : (core : CoreValue) (k : ℕ) (l : LitValue) (r : Option ℕ) → IsTrail core.vars core.trail core.limits → k < length core.trail → l ≡ lit_at core k → Contains core.trail (record { lit = l; reason = r }) → (step_at core k).reason ≡ r
step_read core k l r t w e c = grind (arith, get_or_default core.trail c.0 no_step (record { lit = l; reason = r }) c.1, same_place core c.0 k t c.1 w)

-- a step that has a reason is implied
pub reason_implied : (core : CoreValue) (k : ℕ) (l : LitValue) (id : ℕ) → AreGrounded core → IsTrail core.vars core.trail core.limits → k < length core.trail → l ≡ lit_at core k → Contains core.trail (record { lit = l; reason = Some id }) → IsImplied core.clauses (IsDue core.limits) (take k core.trail) (step_at core k)
reason_implied core k l id g t w e c =
    let r = step_read core k l (Some id) t w e c in
    ⊎_elim (λ d. let none = d.0 in absurd (cc)) (λ i. i) (g k no_step w)

-- ---- a step is taken

module _ (core : CoreValue) (w : WalkValue) (place : ℕ) (s : IsStep core w place) where
  pub without_sorted : IsSorted core (without core w place s.implied.id)
  without_sorted = record {
    marked = marked_set core w.stamp w.marks place 2 s.formed s.marked (grind arith);
    kept = kept_set core w.stamp w.marks w.lits (lit_at core place).var (w.stamp + 2) (grind (arith, lit_about core place s.formed s.within)) s.kept (λ h. omega (arith, h)) (inl refl);
    noted = noted_same core w.stamp w.marks w.met_places place (w.stamp + 2) s.formed s.within s.marked.len (omega arith) s.noted s.met;
    open_ = s.open_;
    zeros = s.zeros;
  }

  without_mark : mark_of (without core w place s.implied.id) (lit_at core place) ≡ w.stamp + 2
  without_mark = mark_same core w.marks place (w.stamp + 2) s.formed s.marked.len s.within

  -- the mark at another place, where it was met before
  other_mark : (k : ℕ) → k < length core.trail → k ≢ place → mark_of (without core w place s.implied.id) (lit_at core k) ≡ mark_of w (lit_at core k)
  other_mark k v n = get_or-set_other w.marks (lit_at core place).var (lit_at core k).var (w.stamp + 2) 0 (λ e. n (same_place core k place s.formed v s.within e))

  -- a literal of the reason is that of the step, or became false before
  others_false : (o : LitValue) → Contains (get_or core.clauses s.implied.id []) o → (o ≡ lit_at core place) ⊎ IsFalse (trues core) o
  others_false o c = ⊎_elim (λ e. inl e) (λ f. inr (in_front place (trues core) (negation o) (subst (λ xs. Contains xs (negation o)) (sym (take-map (λ s. s.lit) place core.trail)) f))) (s.implied.unit.others o c)

  pub others_met : (o : LitValue) → Contains (get_or core.clauses s.implied.id []) o → IsSeen (without core w place s.implied.id) o ⊎ IsFalse (trues core) o
  others_met o c = ⊎_elim (λ e. let m = without_mark in inl (subst (IsSeen (without core w place s.implied.id)) (sym e) (omega (arith, m)))) (λ f. inr f) (others_false o c)

  pub others_within : (o : LitValue) → Contains (get_or core.clauses s.implied.id []) o → o.var ≤ core.vars
  others_within o c = grind (arith, others_false o c, lit_about core place s.formed s.within, All-contains (IsAbout core.vars) (trues core) (negation o) s.formed.within, ⊎_elim)

  -- where a literal of the reason became false
  before_at : (k : ℕ) (o : LitValue) → k < length core.trail → o.var ≡ (lit_at core k).var → IsFalse (lits_of (take place core.trail)) o → k < place
  before_at k o v e f =
      let j = false_before core o place (omega (arith, s.within)) f in
      let same = same_place core j.0 k s.formed j.2.within v (j.2.var ∙ e) in
      omega (arith, j.1, same)

-- ---- and the literals of its reason were met

-- a step that has a reason has it still
reasoned_on : (core : CoreValue) (w w' : WalkValue) (k : ℕ) → ((o : LitValue) → IsSeen w o → IsSeen w' o) → IsReasoned core w k → IsReasoned core w' k
reasoned_on core w w' k on r = record { id = r.id; reason = r.reason; within = r.within; stands = r.stands; others = λ o c. ⊎_elim (λ e. inl e) (λ h. inr (on o h.0, h.1)) (r.others o c) }

module _ (core : CoreValue) (w w' : WalkValue) (place : ℕ) (t : IsTaken core place w w') where
  -- what was met before, or in the reason
  marks_from : (k : ℕ) → k < length core.trail → k ≢ place → w'.stamp ≤ mark_of w' (lit_at core k) → (mark_of w' (lit_at core k) ≡ mark_of w (lit_at core k)) ⊎ ((k < place) × (mark_of w' (lit_at core k) ≢ w'.stamp + 2))
  marks_from k v n g = ⊎_elim
      (λ seen. inl (t.met.stays (lit_at core k).var seen ∙ other_mark core w place t.step k v n))
      (λ q.
      let lower = ⊎_elim (λ i. absurd (n (same_place core k place t.step.formed v t.step.within (sym q.2 ∙ ap (λ x. x.var) i)))) (λ f. before_at core w place t.step k q.0 v q.2 f) (t.step.implied.unit.others q.0 q.1) in
      inr (lower, λ e. q.3 (omega (arith, e, t.met.stamp))))
      (t.met.new (lit_at core k).var (omega (arith, g, t.met.stamp)))

  marks_stay : (k : ℕ) → k < length core.trail → k ≢ place → w.stamp ≤ mark_of w (lit_at core k) → mark_of w' (lit_at core k) ≡ mark_of w (lit_at core k)
  marks_stay k v n g = let o = other_mark core w place t.step k v n in t.met.stays (lit_at core k).var (omega (arith, o, g)) ∙ o

  pub resolved_before : (k : ℕ) → k < length core.trail → k ≢ place → mark_of w' (lit_at core k) ≡ w'.stamp + 2 → mark_of w (lit_at core k) ≡ w.stamp + 2
  resolved_before k v n e = ⊎_elim (λ s. omega (arith, s, e, t.met.stamp)) (λ q. absurd (q.1 e)) (marks_from k v n (omega (arith, e)))

  resolved_after : (k : ℕ) → k < length core.trail → k ≢ place → mark_of w (lit_at core k) ≡ w.stamp + 2 → mark_of w' (lit_at core k) ≡ w'.stamp + 2
  resolved_after k v n e = let s = marks_stay k v n (omega (arith, e)) in omega (arith, s, e, t.met.stamp)

  resolved_here : mark_of w' (lit_at core place) ≡ w'.stamp + 2
  resolved_here = grind (arith, without_mark core w place t.step, t.met.stays (lit_at core place).var (omega (arith, (without_mark core w place t.step))))

  pub taken_seen : (o : LitValue) → IsSeen w o → IsSeen w' o
  taken_seen o h = grind (arith, ⊎_elim, resolved_here, get_or-set_other, cases_eq)

  taken_hints : (kind : ℕ) → IsPassed core kind w (place + 1) → reverse w'.hints ≡ hints_of (resolved_by w') core.trail
  taken_hints kind p =
      let first : filter (resolved_by w') core.trail ≡ step_at core place ∷ filter (resolved_by w) core.trail =
      filter_first (resolved_by w') (resolved_by w) core.trail place no_step t.step.within
      (λ k lt. grind (arith, p.each k (omega (arith, lt, t.step.within)), resolved_before k (omega (arith, lt, t.step.within)), ne_eqb))
      (eq-eqb (mark_of w' (lit_at core place)) (w'.stamp + 2) resolved_here)
      (ne_eqb (mark_of w (lit_at core place)) (w.stamp + 2) t.step.new)
      (λ k gt v. grind (arith, resolved_before k v, resolved_after k v, eq-eqb, ne_eqb, cases_eq (mark_of w (lit_at core k)) (w.stamp + 2), cases_eq (mark_of w' (lit_at core k)) (w'.stamp + 2), ⊎_elim)) in
      ap reverse t.met.hints
      ∙ reverse-append w.hints (pos (t.step.implied.id + 1) ∷ [])
      ∙ ap (λ hs. pos (t.step.implied.id + 1) ∷ hs) p.hints
      ∙ ap (λ r. pos (number_of r) ∷ hints_of (resolved_by w) core.trail) (sym t.step.implied.reason)
      ∙ ap (map (λ x. pos (number_of x.reason))) (sym first)

  pub taken_passed : (kind : ℕ) → kind ≢ 2 → IsPassed core kind w (place + 1) → IsPassed core kind w' place
  taken_passed kind two p = record {
    each = λ k v e. ⊎_elim
        (λ same. (omega (arith, same), subst (IsReasoned core w') (sym same) here'))
        (λ n. let q = p.each k v (resolved_before k v n e) in (omega (arith, q.0), reasoned_on core w w' k taken_seen q.1))
        (cases_eq k place);
    waits = λ k v e. grind (arith, ⊎_elim, cases_eq k place, resolved_here, p.waits k v, marks_from k v);
    hints = taken_hints kind p;
  }
    where
      here' : IsReasoned core w' place
      here' = record {
        id = t.step.implied.id;
        reason = t.step.implied.reason;
        within = t.step.implied.within;
        stands = t.step.implied.unit.stands;
        others = λ o c. ⊎_elim (λ e. inl e) (λ f. inr (t.met.seen o c, f)) (t.step.implied.unit.others o c);
      }

  -- at a step below the last level no literal of the last level is met
  pub taken_open : (0 < length core.limits → level_at core.limits place < length core.limits) → HasSameOpen core w w'
  taken_open low = record {
    before = λ k v e. grind (arith, ⊎_elim, low, t.met.sorted.marked.top k v e, level_grows core.limits k place, marks_from k v);
    after = λ k v e. grind (arith, low, t.step.marked.top k v e, marks_stay k v);
  }

-- ---- a walk goes on by a step, of which the counts were told before

module _ (core : CoreValue) (a w b : WalkValue) (opens bottoms place : ℕ) (t : IsTaken core place (record w { open_ = opens; zeros = bottoms }) b) where
  pub walked_on : (kind : ℕ) → kind ≢ 2 → IsOnward a w → IsPassed core kind w (place + 1) → HasWalked core kind a b place
  walked_on kind two on p = record {
    within = omega (arith, t.step.within);
    sorted = t.met.sorted;
    onward = record { stamp = t.met.stamp ∙ on.stamp; seen = λ o h. taken_seen core (record w { open_ = opens; zeros = bottoms }) b place t o (on.seen o h) };
    passed = taken_passed core (record w { open_ = opens; zeros = bottoms }) b place t kind two (grind arith);
  }

  pub open_on : (0 < length core.limits → level_at core.limits place < length core.limits) → HasSameOpen core a w → HasSameOpen core a b
  open_on low p =
      let q = taken_open core (record w { open_ = opens; zeros = bottoms }) b place t low in
      record { before = λ k v e. p.before k v (q.before k v e); after = λ k v e. q.after k v (p.after k v e) }

  pub above_on : (from : ℕ) → place < from → HasSameAbove core from a w → HasSameAbove core from a b
  above_on from lt p = record { above = λ k v ge e. p.above k v ge (resolved_before core (record w { open_ = opens; zeros = bottoms }) b place t k v (λ h. omega (arith, h, lt, ge)) e) }

-- ---- as the loop reads it

pub reason_some : (r : Option ℕ) (id : ℕ) → r ≡ Some id → IsSome r
reason_some r id e = rw e refl

-- a step that was read is marked, and its reason is noted
pub without_is : (core : CoreValue) (w : WalkValue) (place : ℕ) (s : IsStep core w place) (x : LitValue) (r : Option ℕ) (id var : ℕ) (hint : ℤ) (hints : List ℤ) → x ≡ lit_at core place → Contains core.trail (record { lit = x; reason = r }) → r ≡ Some id → var ≡ x.var → hint ≡ pos (id + 1) → hints ≡ w.hints ++ hint ∷ []
    → (s.implied.id ≡ id) × ◌≡◌ {A = WalkValue} (without core w place s.implied.id) (record w { marks = set w.marks var (w.stamp + 2); hints = hints })
without_is core w place s x r id var hint hints at c is v h hs =
    let reason = step_read core place x r s.formed s.within at c in
    let reason' = s.implied.reason in
    let same : s.implied.id ≡ id = cc in
    (same, cc)

-- a literal that is read at a place
pub place_read : (core : CoreValue) (read : List LitValue) (k : ℕ) (x : LitValue) → read ≡ trues core → k < length core.trail → x ≡ get_or read k x → x ≡ lit_at core k
place_read core read k x e w is = is ∙ ap (λ xs. get_or xs k x) e ∙ lit_read core k x w
