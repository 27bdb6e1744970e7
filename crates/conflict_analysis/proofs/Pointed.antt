-- Where the walk begins and ends: one literal of the last level is left, and all others that are kept became false below it.
use Rattle.std.proofs.lemmas.{Bool.Decides.nat_tests, Grind.common_steps}
use Rattle.std.proofs.{Common.{suc, ◌-◌, ◌≡◌, ℕ, ◌+◌, ◌<◌, ◌≤◌, Bool, false, List, [], ◌∷◌, length, get_or, take, refl, sym, ap, ◌∙◌, ⊎_elim, arith, ◌≢◌, ◌⊎◌, Contains, filter, nat_le}, lemmas.List.{get_or-take, length-take-le}}
use Rattle.std.proofs.lemmas.{List.{Sums.count_by-le-length, Elements.{All-contains, Contains-get_or}}, Bool.{cases_lt, cases_eq, ne_eqb}}
use Rattle.cnf_formula.specs.{Formulas.IsAbout, Literals.{LitValue, negation}}
use Rattle.trail_core.{specs.{Assigned.{IsFalse, IsOpen, AreLimits, level_at}, Trails.StepValue, Meaning.{CoreValue, trues}, Formed.IsTrail}, proofs.{Trails.all_counted, Keeping.lits_length}}
use Rattle.conflict_analysis.specs.{Conflicts.IsConflict, PlaceSets.HasPlace, Met.{WalkValue, no_step, lit_at, mark_of, IsSorted, HasMet, IsPassed, IsImplicationPoint}}
use Rattle.conflict_analysis.proofs.{Levels.{level_grows, level_below, some_level, limits_rise}, Counted.{waits_some, waits_none}, Marked.{IsAt, false_at, lit_read, lit_about, same_place}}

-- the kinds of marks
pub kinds : (m stamp : ℕ) → stamp ≤ m → m ≤ stamp + 3 → (m ≡ stamp) ⊎ ((m ≡ stamp + 1) ⊎ ((m ≡ stamp + 2) ⊎ (m ≡ stamp + 3)))
kinds m stamp low high = grind (arith, cases_eq)

-- ---- levels and places

-- what is of a lower level lies below the last
pub low_place : (limits : List ℕ) (len last k : ℕ) → AreLimits limits len → last + 1 ≡ length limits → level_at limits k < length limits → k < get_or limits last 0
low_place limits len last k a e low = ⊎_elim
    (λ lt. lt)
    (λ ge. let all = all_counted limits k (λ i w. let r = limits_rise limits len i last a (omega (arith, w, e)) (omega (arith, e)) in omega (arith, r, ge)) in absurd (omega (arith, all, low)))
    (cases_lt k (get_or limits last 0))

-- what is of the last level does not
pub high_place : (limits : List ℕ) (last k : ℕ) → last + 1 ≡ length limits → level_at limits k ≡ length limits → get_or limits last 0 ≤ k
high_place limits last k e top = grind (arith, nat_tests, common_steps, ⊎_elim, level_below, Contains-get_or, count_by-le-length, nat_le, cases_lt)

-- level 0 lies below the first
pub bottom_place : (limits : List ℕ) (k : ℕ) → 0 < length limits → level_at limits k ≡ 0 → k < get_or limits 0 0
bottom_place limits k w z = grind (arith, nat_tests, common_steps, ⊎_elim, some_level, Contains-get_or, cases_lt, level_grows)

-- a literal that became false below a place is false there
pub false_below : (core : CoreValue) (o : LitValue) (k m : ℕ) → IsAt core o k → k < m → m ≤ length core.trail → IsFalse (take m (trues core)) o
false_below core o k m a lt w = grind (arith, length-take-le m (trues core) (omega (arith, w, lits_length core.trail)), lits_length core.trail, get_or-take m (trues core) k (negation o) lt, lit_read core k (negation o) a.within)

-- a literal of a place is open below it
pub open_below : (core : CoreValue) (l : LitValue) (k m : ℕ) → IsTrail core.vars core.trail core.limits → k < length core.trail → (lit_at core k).var ≡ l.var → m ≤ k → IsOpen (take m (trues core)) l
open_below core l k m t w e le = grind (arith, length-take-le, lits_length, lit_read, get_or-take, same_place)

-- ---- the begin

-- no step is resolved yet
pub filter_none : (p : StepValue → Bool) (xs : List StepValue) → ((k : ℕ) → k < length xs → p (get_or xs k no_step) ≡ false) → filter p xs ≡ []
filter_none p [] h = refl
filter_none p (x ∷ xs) h = let e : p x ≡ false = h 0 (omega arith) in rw e (filter_none p xs (λ k w. h (suc k) (omega (arith, w))))

-- nothing was met
pub record IsBegun (core : CoreValue) (w : WalkValue) : Type 0 where
  pub len : length w.marks ≡ core.vars + 1
  pub low : (v : ℕ) → get_or w.marks v 0 < w.stamp
  pub lits : w.lits ≡ []
  pub hints : w.hints ≡ []
  pub open_ : w.open_ ≡ 0
  pub zeros : w.zeros ≡ 0
  pub none : (k : ℕ) → HasPlace w.met_places k → ⊥

pub begun_sorted : (core : CoreValue) (w : WalkValue) → IsBegun core w → IsSorted core w
begun_sorted core w b = record {
  marked = grind (arith, b.low);
  kept = grind arith;
  noted = grind arith;
  open_ = b.open_ ∙ sym (waits_none (w.stamp + 1) w.marks (λ v h e. let r = b.low v in omega (arith, e, r)));
  zeros = b.zeros ∙ sym (waits_none (w.stamp + 3) w.marks (λ v h e. let r = b.low v in omega (arith, e, r)));
}

-- the conflict was met: nothing is resolved
pub met_unresolved : (core : CoreValue) (clause : List LitValue) (a b : WalkValue) (v : ℕ) → IsBegun core a → HasMet core clause a b → get_or b.marks v 0 ≢ b.stamp + 2
met_unresolved core clause a b v begun m e = grind arith

pub met_passed : (core : CoreValue) (clause : List LitValue) (a b : WalkValue) → IsBegun core a → HasMet core clause a b → IsPassed core 3 b (length core.trail)
met_passed core clause a b begun m = grind (arith, met_unresolved, filter_none, ne_eqb)

-- above level 0 some literal of the last level is met
pub met_open_some : (core : CoreValue) (conflict : ℕ) (a b : WalkValue) → IsConflict core conflict → IsBegun core a → HasMet core (get_or core.clauses conflict []) a b → 0 < length core.limits → 0 < b.open_
met_open_some core conflict a b c begun m some = ⊎_elim
    (λ h. h)
    (λ z. absurd ((c.closed_below last (omega (arith, some))).not_falsified (get_or core.clauses conflict []) (Contains-get_or core.clauses conflict [] c.within) (λ o h. low o h (omega (arith, z)))))
    (cases_lt 0 b.open_)
  where
    last : ℕ
    last = length core.limits - 1

    low : (o : LitValue) → Contains (get_or core.clauses conflict []) o → b.open_ ≡ 0 → IsFalse (take (get_or core.limits last 0) (trues core)) o
    low o h z =
        let i = false_at core o (c.falsified o h) in
        let below : level_at core.limits i.0 < length core.limits = grind (arith, kinds (mark_of b o) b.stamp (m.seen o h) (m.sorted.marked.over o.var), waits_some (b.stamp + 1) b.marks o.var, met_unresolved core (get_or core.clauses conflict []) a b o.var begun m, lit_about core i.0 c.formed i.1.within, m.sorted.marked.low i.0 i.1.within, m.sorted.marked.bottom i.0 i.1.within, m.sorted.open_, m.sorted.marked.len, i.1.var, ⊎_elim) in
        let lt = low_place core.limits (length core.trail) last i.0 c.formed.levels (omega (arith, some)) below in
        let top = c.formed.levels.below last (omega (arith, some)) in
        false_below core o i.0 (get_or core.limits last 0) i.1 lt (omega (arith, top))

-- ---- from the last level to level 0

pub passed_middle : (core : CoreValue) (w : WalkValue) (l : LitValue) (place : ℕ) → IsTrail core.vars core.trail core.limits → IsSorted core w → IsImplicationPoint core w l → IsPassed core 1 w place → IsPassed core 3 w (get_or core.limits (length core.limits - 1) 0)
passed_middle core w l place t s p q =
    let e : mark_of w (lit_at core p.place) ≡ w.stamp + 1 = ap (mark_of w) p.is ∙ p.waits in
    let top = s.marked.top p.place p.within e in
    let low = high_place core.limits (length core.limits - 1) p.place (omega (arith, top.1)) top.0 in
    record {
      each = λ k v h. let r = q.each k v h in (omega (arith, r.0, q.waits p.place p.within e, low), r.1);
      waits = λ k v h. grind (arith, top, bottom_place core.limits k, s.marked.bottom k v h, limits_rise core.limits (length core.trail) 0 (length core.limits - 1) t.levels);
      hints = q.hints;
    }

-- ---- as the analysis reads it

pub conflict_within : (core : CoreValue) (conflict : ℕ) → IsConflict core conflict → (o : LitValue) → Contains (get_or core.clauses conflict []) o → o.var ≤ core.vars
conflict_within core conflict c o h = (All-contains (IsAbout core.vars) (trues core) (negation o) c.formed.within (c.falsified o h)).within
