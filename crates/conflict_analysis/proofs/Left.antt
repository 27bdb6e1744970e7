-- Of what is kept the literals are left that are marked so still.
use Rattle.std.proofs.{Common.{◌≡◌, ℕ, ◌+◌, ◌<◌, true, List, [], ◌∷◌, ◌++◌, length, get_or, take, sym, ap, ◌∙◌, inl, arith, eq-eqb, ◌≢◌, ◌==◌, Contains, Option, None, Some, MatchOption}, lemmas.{Bool.{eqb-true, ne_eqb}, List.append-nil}}
use Rattle.std.proofs.lemmas.List.{Elements.{All-contains, All-contains_itself, All-filter, filter_more, filter_passes}, Kept.AllPairs-filter}
use Rattle.list_laws.proofs.Members.{Contains-filter}
use Rattle.cnf_formula.specs.Literals.{LitValue}
use Rattle.trail_core.specs.{Meaning.CoreValue, Formed.IsTrail}
use Rattle.conflict_analysis.{specs.Met.{WalkValue, IsSorted, IsPassed, IsImplicationPoint, left_of}, proofs.Marked.{false_at, lit_about}}

-- one more that is kept, or is not
pub left_more : (stamp : ℕ) (marks : List ℕ) (lits left : List LitValue) (k : ℕ) (x : LitValue) → k < length lits → x ≡ get_or lits k x → left ≡ left_of stamp marks (take k lits)
    → (get_or marks x.var 0 ≡ stamp → left ++ x ∷ [] ≡ left_of stamp marks (take (k + 1) lits)) × (get_or marks x.var 0 ≢ stamp → left ≡ left_of stamp marks (take (k + 1) lits))
left_more stamp marks lits left k x w is e = grind (arith, filter_more (λ o. get_or marks o.var 0 == stamp) lits k x w ∙ ap (λ y. left_of stamp marks (take k lits) ++ left_of stamp marks (y ∷ [])) (sym is), eq-eqb, ne_eqb, append-nil)

-- what is left is kept, and marked so
pub left_kept : (stamp : ℕ) (marks : List ℕ) (lits : List LitValue) (o : LitValue) → Contains (left_of stamp marks lits) o → Contains lits o × (get_or marks o.var 0 ≡ stamp)
left_kept stamp marks lits o c = (
  All-contains (Contains lits) (left_of stamp marks lits) o (All-filter (λ o. get_or marks o.var 0 == stamp) (Contains lits) lits (All-contains_itself lits)) c,
  eqb-true (get_or marks o.var 0) stamp (All-contains (λ o. (get_or marks o.var 0 == stamp) ≡ true) (left_of stamp marks lits) o (filter_passes (λ o. get_or marks o.var 0 == stamp) lits) c),
)

-- the walk with these in place of what is kept
abbrev pub left_in : WalkValue → WalkValue
left_in w = record w { lits = left_of w.stamp w.marks w.lits }

pub left_sorted : (core : CoreValue) (w : WalkValue) → IsSorted core w → IsSorted core (left_in w)
left_sorted core w s = record {
  marked = s.marked;
  kept = record {
    of = λ o c. let h = left_kept w.stamp w.marks w.lits o c in (inl h.1, (s.kept.of o h.0).1);
    all = λ o f e. Contains-filter (λ o. get_or w.marks o.var 0 == w.stamp) w.lits o (eq-eqb (get_or w.marks o.var 0) w.stamp e) (s.kept.all o f e);
    once = AllPairs-filter (λ a b. a.var ≢ b.var) (λ o. get_or w.marks o.var 0 == w.stamp) w.lits s.kept.once;
  };
  noted = s.noted;
  open_ = s.open_;
  zeros = s.zeros;
}

pub left_passed : (core : CoreValue) (kind : ℕ) (w : WalkValue) (place : ℕ) → IsPassed core kind w place → IsPassed core kind (left_in w) place
left_passed core kind w place p = grind arith

pub left_point : (core : CoreValue) (w : WalkValue) (point : Option LitValue) → MatchOption point (length core.limits ≡ 0) (λ l. IsImplicationPoint core w l × (0 < length core.limits)) → MatchOption point (length core.limits ≡ 0) (λ l. IsImplicationPoint core (left_in w) l × (0 < length core.limits))
left_point core w None p = p
left_point core w (Some l) p = (record { place = p.0.place; within = p.0.within; is = p.0.is; waits = p.0.waits; only = p.0.only }, p.1)

-- what is kept is about the core's variables
pub kept_room : (core : CoreValue) (w : WalkValue) → IsTrail core.vars core.trail core.limits → IsSorted core w → (o : LitValue) → Contains w.lits o → o.var < length w.marks
kept_room core w t s o c = grind (arith, false_at core o (s.kept.of o c).1, lit_about core (false_at core o (s.kept.of o c).1).0 t (false_at core o (s.kept.of o c).1).1.within)
