-- A step that waits has a reason.
use Rattle.std.proofs.{lemmas.{Bool.{Decides.nat_tests, cases_eq}, Grind.common_steps}, Common.{◌≡◌, ℕ, ◌+◌, ◌-◌, ◌<◌, ◌≤◌, length, get_or, set, take, sym, ap, ◌∙◌, subst, ⊎_elim, arith, ◌≢◌, Contains}}
use Rattle.std.proofs.lemmas.List.{get_or_default, length-take-le}
use Rattle.cnf_formula.specs.Literals.{LitValue}
use Rattle.trail_core.specs.{Search.IsImplied, Kept.{IsDue, AreGrounded}, Meaning.CoreValue, Formed.IsTrail}
use Rattle.conflict_analysis.specs.{Met.{WalkValue, step_at, no_step, lit_at, mark_of, IsSorted, IsPassed, waiting}, PlaceSets.HasPlace, inner.Walks.{IsNext, IsStep, HasWalked}}
use Rattle.conflict_analysis.proofs.{Levels.{level_below, some_level}, Marked.{lit_about, same_place}, Counted.{waits_some, waits_less, waits_same, waits_where, waits_other, waits_two}}

-- a step that is not the first of its level is implied
pub implied_at : (core : CoreValue) (k : ℕ) → AreGrounded core → k < length core.trail → (Contains core.limits k → ⊥) → IsImplied core.clauses (IsDue core.limits) (take k core.trail) (step_at core k)
implied_at core k g w n = ⊎_elim (λ d. absurd (n (subst (Contains core.limits) (length-take-le k core.trail (omega (arith, w))) d.1))) (λ i. i) (g k no_step w)

-- some step waits below, so the place of a literal that was met lies there
pub waits_below : (core : CoreValue) (kind : ℕ) (w : WalkValue) (place : ℕ) → IsSorted core w → IsPassed core kind w place → 0 < waiting (w.stamp + kind) w.marks → (k : ℕ) × (k < place) × HasPlace w.met_places k
waits_below core kind w place s p some = grind (arith, waits_where (w.stamp + kind) w.marks some)

-- so from the next place of a literal that was met on, all but this place are passed
pub next_passed : (core : CoreValue) (kind : ℕ) (w : WalkValue) (from place : ℕ) → IsSorted core w → IsPassed core kind w from → place < from → ((k : ℕ) → place < k → k < from → HasPlace w.met_places k → ⊥) → IsPassed core kind w (place + 1)
next_passed core kind w from place s p lt none = grind arith

-- a place at which none of the kind waits is passed
pub passed_over : (core : CoreValue) (kind : ℕ) (w : WalkValue) (place : ℕ) → IsPassed core kind w (place + 1) → mark_of w (lit_at core place) ≢ w.stamp + kind → IsPassed core kind w place
passed_over core kind w place p n = grind arith

-- the mark at a place, as it is read
pub mark_read : (core : CoreValue) (w : WalkValue) (place : ℕ) (x : LitValue) (var read : ℕ) → IsTrail core.vars core.trail core.limits → length w.marks ≡ core.vars + 1 → place < length core.trail → x ≡ lit_at core place → var ≡ x.var → read ≡ get_or w.marks var read → read ≡ mark_of w (lit_at core place)
mark_read core w place x var read t s v e i r = grind (arith, lit_about, get_or_default)

-- ---- steps that can be taken

module _ (core : CoreValue) (w : WalkValue) (place mark : ℕ) (formed : IsTrail core.vars core.trail core.limits) (s : IsSorted core w) (within : place < length core.trail) (is : mark_of w (lit_at core place) ≡ w.stamp + mark) (new : mark ≢ 2) where
  room : (lit_at core place).var < length w.marks
  room = let a = lit_about core place formed within in omega (arith, a.within, s.marked.len)

  -- no other kind waits less
  others_wait : (kind : ℕ) → mark ≢ kind → kind ≢ 2 → waiting (w.stamp + kind) w.marks ≡ waiting (w.stamp + kind) (set w.marks (lit_at core place).var (w.stamp + 2))
  others_wait kind other two = sym (waits_same (w.stamp + kind) w.marks (lit_at core place).var (w.stamp + 2) room (λ h. other (omega (arith, h, is))) (λ h. two (omega (arith, h))))

  one_less : waiting (w.stamp + mark) (set w.marks (lit_at core place).var (w.stamp + 2)) + 1 ≡ waiting (w.stamp + mark) w.marks
  one_less = waits_less (w.stamp + mark) w.marks (lit_at core place).var (w.stamp + 2) room is (λ h. new (omega (arith, h)))

  step_by : (opens bottoms : ℕ) → IsImplied core.clauses (IsDue core.limits) (take place core.trail) (step_at core place) → opens ≡ waiting (w.stamp + 1) (set w.marks (lit_at core place).var (w.stamp + 2)) → bottoms ≡ waiting (w.stamp + 3) (set w.marks (lit_at core place).var (w.stamp + 2)) → IsStep core (record w { open_ = opens; zeros = bottoms }) place
  step_by opens bottoms implied open' zeros' = record { formed = formed; within = within; implied = implied; marked = s.marked; kept = s.kept; noted = s.noted; met = omega (arith, is); new = λ h. new (omega (arith, h, is)); open_ = open'; zeros = zeros' }

-- of the last level, where more wait than one
pub open_step : (core : CoreValue) (w : WalkValue) (place : ℕ) → IsTrail core.vars core.trail core.limits → AreGrounded core → IsSorted core w → 1 < w.open_ → IsNext core 1 w place → IsStep core (record w { open_ = w.open_ - 1; zeros = w.zeros }) place
open_step core w place t g s many n =
    let other = waits_other (w.stamp + 1) w.marks (lit_at core place).var (λ h. omega (arith, h)) (room core w place 1 t s n.within n.waits (λ h. omega (arith, h))) n.waits (omega (arith, s.open_, many)) in
    let k = s.marked.placed other.0 (omega (arith, other.2)) in
    let m : mark_of w (lit_at core k.0) ≡ w.stamp + 1 = ap (λ x. get_or w.marks x 0) k.2 ∙ other.2 in
    let differ : k.0 ≢ place = λ h. other.1 (sym k.2 ∙ ap (λ i. (lit_at core i).var) h) in
    let less = one_less core w place 1 t s n.within n.waits (λ h. omega (arith, h)) in
    step_by core w place 1 t s n.within n.waits (λ h. omega (arith, h)) (w.open_ - 1) w.zeros
    (implied_at core place g n.within (λ c. grind (arith, m, differ, c, n.passed.waits k.0 k.1 m, level_below core.limits k.0 place, s.marked.top place n.within n.waits, s.marked.top k.0 k.1 m)))
    (omega (arith, less, s.open_, many))
    (s.zeros ∙ others_wait core w place 1 t s n.within n.waits (λ h. omega (arith, h)) 3 (λ h. omega (arith, h)) (λ h. omega (arith, h)))

-- of level 0
pub bottom_step : (core : CoreValue) (w : WalkValue) (place : ℕ) → IsTrail core.vars core.trail core.limits → AreGrounded core → IsSorted core w → IsNext core 3 w place → IsStep core (record w { open_ = w.open_; zeros = w.zeros - 1 }) place
bottom_step core w place t g s n = step_by core w place 3 t s n.within n.waits (λ h. omega (arith, h)) w.open_ (w.zeros - 1)
    (implied_at core place g n.within (λ c. some_level core.limits place c (s.marked.bottom place n.within n.waits)))
    (grind (arith, others_wait core w place 3 t s n.within n.waits (λ h. omega (arith, h)) 1, s.open_))
    (grind (arith, one_less core w place 3 t s n.within n.waits (λ h. omega (arith, h)), s.zeros))

-- of a literal that was kept
pub kept_step : (core : CoreValue) (w : WalkValue) (place : ℕ) → IsTrail core.vars core.trail core.limits → IsSorted core w → place < length core.trail → mark_of w (lit_at core place) ≡ w.stamp + 0 → IsImplied core.clauses (IsDue core.limits) (take place core.trail) (step_at core place) → IsStep core (record w { open_ = w.open_; zeros = w.zeros }) place
kept_step core w place t s v e i = grind (arith, nat_tests, common_steps, others_wait, step_by)

-- ---- walks

-- before a walk
pub walked_none : (core : CoreValue) (kind : ℕ) (w : WalkValue) (place : ℕ) → place ≤ length core.trail → IsSorted core w → IsPassed core kind w place → HasWalked core kind w w place
walked_none core kind w place le s p = grind arith

-- and one walk after another
pub walked_then : (core : CoreValue) (first kind : ℕ) (a b c : WalkValue) (from place : ℕ) → HasWalked core first a b from → HasWalked core kind b c place → HasWalked core kind a c place
walked_then core first kind a b c from place p q = grind arith

-- where no step of level 0 waits, all are passed
pub walked_all : (core : CoreValue) (a w : WalkValue) (place : ℕ) → IsTrail core.vars core.trail core.limits → w.zeros ≡ 0 → HasWalked core 3 a w place → HasWalked core 3 a w 0
walked_all core a w place t none h = grind (arith, nat_tests, common_steps, lit_about, waits_some)

-- where one step of the last level waits, it is the only one
pub point_alone : (core : CoreValue) (w : WalkValue) (place k : ℕ) → IsTrail core.vars core.trail core.limits → IsSorted core w → w.open_ ≡ 1 → place < length core.trail → k < length core.trail → mark_of w (lit_at core place) ≡ w.stamp + 1 → mark_of w (lit_at core k) ≡ w.stamp + 1 → k ≡ place
point_alone core w place k t s one v u e f = grind (arith, cases_eq (lit_at core k).var (lit_at core place).var, same_place core k place t u v, lit_about core place t v, lit_about core k t u, waits_two (w.stamp + 1) w.marks (lit_at core k).var (lit_at core place).var)
