-- Going back to a level below the last: there the last literal of the clause is open, and all others are false.
use Rattle.std.proofs.{Common.{◌≡◌, ℕ, ◌+◌, ◌-◌, ◌<◌, ◌≤◌, List, [], ◌∷◌, ◌++◌, length, get_or, take, cond, sym, ap, ◌∙◌, subst, inl, inr, ⊎_elim, arith, ◌≢◌, ◌⊎◌, Contains, All, AllPairs, nat_le}, lemmas.Bool.cases_lt}
use Rattle.std.proofs.lemmas.List.{get_or-take, get_or_push, length_push, length-take-le, take-map, take_at, take-take, take_more, Elements.{Contains-append_left, Contains-push, Contains-push_cases, Contains-get_or, All-contains}}
use Rattle.std.proofs.lemmas.List.Sums.{sum_by-take-le}
use Rattle.list_laws.proofs.Each.{all_contained}
use Rattle.cnf_formula.specs.{Literals.{LitValue, negation}, Formulas.IsAbout, Lines.ProofLineValue}
use Rattle.trail_core.specs.{Assigned.{IsFalse, IsOpen, AreLimits, level_at}, Trails.{StepValue, TrailValue}, Search.IsUnit, Formed.IsTrail, Meaning.{CoreValue, trues}, Kept.{IsDue, CanAdd, CanAddTo}}
use Rattle.trail_core.proofs.{Trails.{all_counted, level_at_cut}, Keeping.{nil_limits, in_front}}
use Rattle.sat_core.specs.inner.Jumping.{gone_back, IsBacked, HasLevel, AreUpTo, front_of}
use Rattle.conflict_analysis.{specs.{Learned.{IsPointed, IsLearned}}, proofs.{Marked.{IsAt, false_at, false_before, lit_read, same_place, level_within, level_read}, Levels.{level_below, limits_rise}, Pointed.false_below}}

-- what may be added is due
pub due_by : (t : TrailValue) (clause : List LitValue) → CanAddTo t clause → AreLimits t.limits (length t.steps) → IsDue t.limits t.steps clause
due_by t clause can a = ⊎_elim
    (λ z. inl (ap (λ ls. level_at ls (length t.steps)) (nil_limits t.limits z)))
    (λ q. inr (q.1, q.4.place, q.3, q.4.within, q.4.here, q.4.level ∙ sym (all_counted t.limits (length t.steps) (λ i w. grind (arith, a.below i w)))))
    can

-- the trail below a level
abbrev pub below : ℕ → List StepValue → List ℕ → ℕ → TrailValue
below vars steps limits last = record { vars = vars; steps = take (get_or limits last 0) steps; limits = take last limits }

pub below_limits : (limits : List ℕ) (len last n : ℕ) → AreLimits limits len → last < length limits → n ≡ get_or limits last 0 → AreLimits (take last limits) n
below_limits limits len last n a w e =
    let j = length-take-le last limits (omega (arith, w)) in
    record {
      rising = λ x y lt v. grind (arith, j, get_or-take last limits x 0, get_or-take last limits y 0, a.rising x y lt);
      below = λ x v. grind (arith, j, get_or-take last limits x 0, a.rising x last);
    }

-- ---- levels

-- what is of a level or lower lies below the next
pub under_next : (limits : List ℕ) (len level k : ℕ) → AreLimits limits len → level < length limits → level_at limits k ≤ level → k < get_or limits level 0
under_next limits len level k a w low = ⊎_elim
    (λ lt. lt)
    (λ ge.
    let n : length (take (level + 1) limits) ≡ level + 1 = length-take-le (level + 1) limits (omega (arith, w)) in
    let all = all_counted (take (level + 1) limits) k (λ i v. grind (arith, n, get_or-take (level + 1) limits i 0, limits_rise limits len i level a)) in
    absurd (omega (arith, all, n, sum_by-take-le (λ m. cond {A = ℕ} (nat_le m k) 1 0) limits (level + 1), low)))
    (cases_lt k (get_or limits level 0))

-- ---- the clause

-- the last literal, and what stands before it
pub front_is : (front lits : List LitValue) (point : LitValue) → lits ≡ front ++ point ∷ [] → front_of lits ≡ front
front_is front lits point e = ap (λ xs. take (length xs - 1) xs) e ∙ take_at front (point ∷ []) (length (front ++ point ∷ []) - 1) (let n = length_push front point in omega (arith, n))

pub last_is : (front lits : List LitValue) (point d : LitValue) (k : ℕ) → lits ≡ front ++ point ∷ [] → k + 1 ≡ length lits → get_or lits k d ≡ point
last_is front lits point d k e n = ap (λ xs. get_or xs k d) e ∙ get_or_push front point d k (let l = length_push front point in omega (arith, n, l, ap length e))

pub backed_some : (core : CoreValue) (lits : List LitValue) → IsBacked core lits → 0 < length lits
backed_some core lits b = let n = length_push b.pointed.front b.pointed.point in omega (arith, n, ap length b.pointed.is)

-- its literals are of the variables, and differ
pub backed_within : (core : CoreValue) (lits : List LitValue) → IsTrail core.vars core.trail core.limits → IsBacked core lits → All (IsAbout core.vars) lits
backed_within core lits t b = all_contained (IsAbout core.vars) lits (λ o c.
    let i = All-contains (IsAbout core.vars) (trues core) (negation o) t.within (b.falses o c) in
    record { some = i.some; within = i.within })

pub backed_differ : (core : CoreValue) (lits : List LitValue) → IsBacked core lits → AllPairs (λ a b. a ≢ b) lits
backed_differ core lits b = λ i j d p q e. b.once i j d p q (ap (λ l. l.var) e)

-- below the last level the clause has its last literal open alone
pub pointed_unit : (core : CoreValue) (clause : List LitValue) (last : ℕ) → (p : IsPointed core clause) → last + 1 ≡ length core.limits → IsUnit (take (get_or core.limits last 0) (trues core)) clause p.point
pointed_unit core clause last p e = record {
  stands = subst (λ xs. Contains xs p.point) (sym p.is) (Contains-push p.front p.point);
  open_ = p.open_ last e;
  others = λ o c. ⊎_elim (λ f. inr (p.lower last e o f)) (λ i. inl (sym i)) (Contains-push_cases p.front p.point o (subst (λ xs. Contains xs o) p.is c));
}

-- no literal but the last is of the last level
pub lower_levels : (core : CoreValue) (lits : List LitValue) (level : ℕ) → IsTrail core.vars core.trail core.limits → 0 < length core.limits → IsBacked core lits → HasLevel core (front_of lits) level → level < length core.limits
lower_levels core lits level t some b h =
    let last = length core.limits - 1 in
    let m = get_or core.limits last 0 in
    let top = t.levels.below last (omega (arith, some)) in
    let low = b.pointed.lower last (omega (arith, some)) h.lit (subst (λ xs. Contains xs h.lit) (front_is b.pointed.front lits b.pointed.point b.pointed.is) h.stands) in
    let f = false_before core h.lit m (omega (arith, top)) (subst (λ xs. IsFalse xs h.lit) (take-map (λ s. s.lit) m core.trail) low) in
    let same : f.0 ≡ h.place = same_place core f.0 h.place t f.2.within h.within (ap (λ x. x.var) (f.2.is ∙ sym h.is)) in
    let r = level_below core.limits h.place m (omega (arith, same, f.1)) (Contains-get_or core.limits last 0 (omega (arith, some))) in
    omega (arith, r, level_within core m, h.at)

-- ---- after it was gone back

pub record IsJump (core : CoreValue) (lits : List LitValue) (level : ℕ) : Type 0 where
  pub formed : IsTrail core.vars core.trail core.limits
  pub backed : IsBacked core lits
  pub above : level < length core.limits
  pub top : AreUpTo core (front_of lits) level
  pub attained : HasLevel core (front_of lits) level

pub jump_unit : (core : CoreValue) (lits : List LitValue) (level : ℕ) → (j : IsJump core lits level) → IsUnit (trues (gone_back core level)) lits j.backed.pointed.point
jump_unit core lits level j =
    subst (λ xs. IsUnit xs lits p.point) (take-map (λ s. s.lit) a core.trail) (record {
      stands = subst (λ xs. Contains xs p.point) (sym p.is) (Contains-push p.front p.point);
      open_ = record { not_true = λ c. above.not_true (further p.point c); not_false = λ c. above.not_false (further (negation p.point) c) };
      others = λ o c. ⊎_elim (λ f. inr (low o f)) (λ i. inl (sym i)) (Contains-push_cases p.front p.point o (subst (λ xs. Contains xs o) p.is c));
    })
  where
    p : IsPointed core lits
    p = j.backed.pointed

    a : ℕ
    a = get_or core.limits level 0

    last : ℕ
    last = length core.limits - 1

    above : IsOpen (take (get_or core.limits last 0) (trues core)) p.point
    above = p.open_ last (let w = j.above in omega (arith, w))

    within : a ≤ get_or core.limits last 0
    within = let w = j.above in limits_rise core.limits (length core.trail) level last j.formed.levels (omega (arith, w)) (omega (arith, w))

    further : (x : LitValue) → Contains (take a (trues core)) x → Contains (take (get_or core.limits last 0) (trues core)) x
    further x c = in_front a (take (get_or core.limits last 0) (trues core)) x (subst (λ xs. Contains xs x) (sym (take-take a (get_or core.limits last 0) (trues core) within)) c)

    low : (o : LitValue) → Contains p.front o → IsFalse (take a (trues core)) o
    low o f =
        let i = false_at core o (j.backed.falses o (subst (λ xs. Contains xs o) (sym p.is) (Contains-append_left p.front (p.point ∷ []) o f))) in
        let level' = j.top o i.0 (subst (λ xs. Contains xs o) (sym (front_is p.front lits p.point p.is)) f) i.1.within i.1.is in
        let top = j.formed.levels.below level j.above in
        false_below core o i.0 a i.1 (under_next core.limits (length core.trail) level i.0 j.formed.levels j.above level') (omega (arith, top))

pub jump_can : (core : CoreValue) (lits : List LitValue) (level : ℕ) → IsJump core lits level → CanAdd (gone_back core level) lits
jump_can core lits level j =
    let h = j.attained in
    let a = get_or core.limits level 0 in
    let top = j.formed.levels.below level j.above in
    let lt = under_next core.limits (length core.trail) level h.place j.formed.levels j.above (omega (arith, h.at)) in
    let n = length-take-le a core.trail (omega (arith, top)) in
    let l = length-take-le level core.limits (let w = j.above in omega (arith, w)) in
    inr (
      j.backed.pointed.point,
      h.lit,
      jump_unit core lits level j,
      in_front (length lits - 1) lits h.lit h.stands,
      record {
        place = h.place;
        within = omega (arith, lt, n);
        here = ap (λ xs. get_or xs h.place h.lit) (sym (take-map (λ s. s.lit) a core.trail)) ∙ get_or-take a (trues core) h.place h.lit lt ∙ lit_read core h.place h.lit h.within ∙ h.is;
        level = level_at_cut core.limits level h.place j.above lt j.formed.levels.rising ∙ h.at ∙ sym l;
      },
    )

pub jump_due : (core : CoreValue) (lits : List LitValue) (level : ℕ) → IsJump core lits level → IsDue (gone_back core level).limits (gone_back core level).trail lits
jump_due core lits level j =
    let top = j.formed.levels.below level j.above in
    due_by (below core.vars core.trail core.limits level) lits (jump_can core lits level j)
    (below_limits core.limits (length core.trail) level (length (take (get_or core.limits level 0) core.trail)) j.formed.levels j.above (length-take-le (get_or core.limits level 0) core.trail (omega (arith, top))))

-- what is learned is so backed
pub learned_backed : (core : CoreValue) (conflict : ℕ) (line : ProofLineValue) → 0 < length core.limits → IsLearned core conflict line → IsBacked core line.lits
learned_backed core conflict line some l = record { pointed = l.points some; once = l.once; falses = l.analysis.falses }

-- ---- the highest level of some literals

pub up_to_more : (core : CoreValue) (xs : List LitValue) (x : LitValue) (a level b : ℕ) → ((k : ℕ) → IsAt core x k → level ≡ level_at core.limits k) → AreUpTo core xs a → a ≤ b → level ≤ b → AreUpTo core (xs ++ x ∷ []) b
up_to_more core xs x a level b is up low high o j c v i = ⊎_elim
    (λ d. let r = up o j d v i in omega (arith, r, low))
    (λ s. let e = is j (record { within = v; is = i ∙ ap negation (sym s); var = ap (λ l. l.var) i ∙ ap (λ l. l.var) (sym s) }) in omega (arith, e, high))
    (Contains-push_cases xs x o c)

pub level_more : (core : CoreValue) (xs : List LitValue) (x : LitValue) (a level b k : ℕ) → IsAt core x k → level ≡ level_at core.limits k → (0 < a → HasLevel core xs a) → (b ≡ a) ⊎ (b ≡ level) → 0 < b → HasLevel core (xs ++ x ∷ []) b
level_more core xs x a level b k at e has or some = grind (arith, ⊎_elim, Contains-append_left, Contains-push)

-- one literal more was read
pub record IsHighest (core : CoreValue) (lits : List LitValue) (top : ℕ) : Type 0 where
  pub up_to : AreUpTo core lits top
  pub has : 0 < top → HasLevel core lits top

pub highest_more : (core : CoreValue) (lits : List LitValue) (i : ℕ) (x neg : LitValue) (a level b : ℕ) → i < length lits → x ≡ get_or lits i x → neg ≡ negation x → IsFalse (trues core) x → ((k : ℕ) → k < length core.trail → get_or (trues core) k neg ≡ neg → level ≡ level_at core.limits k) → IsHighest core (take i lits) a → a ≤ b → level ≤ b → (b ≡ a) ⊎ (b ≡ level) → IsHighest core (take (i + 1) lits) b
highest_more core lits i x neg a level b w is n f read h low high or =
    let at = false_at core x f in
    let level' : (k : ℕ) → IsAt core x k → level ≡ level_at core.limits k = λ k q. level_read core x neg k level q n read in
    subst (λ xs. IsHighest core xs b) (ap (λ y. take i lits ++ y ∷ []) is ∙ sym (take_more lits i x w)) (record {
      up_to = up_to_more core (take i lits) x a level b level' h.up_to low high;
      has = level_more core (take i lits) x a level b at.0 at.1 (level' at.0 at.1) h.has or;
    })
