-- What is left at the end of the walk is learned.
use Rattle.std.proofs.Common.{◌≡◌, ℕ, ◌+◌, ◌<◌, List, [], ◌∷◌, ◌++◌, length, get_or, take, refl, sym, ap, ◌∙◌, subst, inl, inr, ⊎_elim, arith, eq-eqb, ◌≢◌, ◌⊎◌, Contains, AllPairs, Option, None, Some, MatchOption, reverse, pos}
use Rattle.std.proofs.lemmas.{Bool.eqb-true, List.{get_or_default, append-nil, take-map, Quantifiers.all_pairs_push, Elements.{Contains-append_left, Contains-append_right, Contains-push_cases, Contains-get_or}}}
use Rattle.cnf_formula.specs.{Literals.{LitValue, negation}, Lines.ProofLineValue}
use Rattle.trail_core.{specs.{Assigned.IsFalse, Trails.{StepValue, lits_of}, Meaning.{CoreValue, trues}}, proofs.Keeping.{negated_twice, in_front}}
use Rattle.conflict_analysis.specs.{Conflicts.IsConflict, Learning.{IsOut, IsResolved, IsAnalysis}, Learned.{IsPointed, IsLearned}}
use Rattle.conflict_analysis.specs.Met.{WalkValue, no_step, step_at, lit_at, mark_of, resolved_by, IsSeen, IsSorted, IsPassed, IsImplicationPoint}
use Rattle.conflict_analysis.proofs.{Members.{here, from_map, nil_by}, Counted.waits_some, Marked.{IsAt, false_at, lit_about, lit_stands}, Pointed.{low_place, high_place, false_below, open_below, kinds}}

-- the point with its sign turned
abbrev pub point_lits : Option LitValue → List LitValue
point_lits None = []
point_lits (Some l) = negation l ∷ []

-- the walk has ended
pub record IsEnded (core : CoreValue) (conflict : ℕ) (w : WalkValue) (point : Option LitValue) : Type 0 where
  pub conflicts : IsConflict core conflict
  pub met : (o : LitValue) → Contains (get_or core.clauses conflict []) o → IsSeen w o
  pub sorted : IsSorted core w
  pub exact : (o : LitValue) → Contains w.lits o → mark_of w o ≡ w.stamp
  pub none : w.zeros ≡ 0
  pub passed : IsPassed core 3 w 0
  pub left : MatchOption point (length core.limits ≡ 0) (λ l. IsImplicationPoint core w l × (0 < length core.limits))

-- a step of the last level that waits is the point
waits_kept : (core : CoreValue) (w : WalkValue) (point : Option LitValue) (o : LitValue) (k : ℕ) → MatchOption point (length core.limits ≡ 0) (λ l. IsImplicationPoint core w l × (0 < length core.limits)) → IsSorted core w → IsAt core o k → mark_of w (lit_at core k) ≡ w.stamp + 1 → Contains (point_lits point) o
waits_kept core w None o k p s a e = let t = s.marked.top k a.within e in absurd (omega (arith, t.1, p))
waits_kept core w (Some l) o k p s a e = grind (arith, negated_twice, here)

-- what was met is in the clause, or its step is resolved
kept_or_resolved : (core : CoreValue) (conflict : ℕ) (w : WalkValue) (point : Option LitValue) (o : LitValue) → IsEnded core conflict w point → IsSeen w o → IsFalse (trues core) o → Contains (w.lits ++ point_lits point) o ⊎ (mark_of w o ≡ w.stamp + 2)
kept_or_resolved core conflict w point o d seen f =
    let i = false_at core o f in
    grind (arith, kinds (mark_of w o) w.stamp seen (d.sorted.marked.over o.var), lit_about core i.0 d.conflicts.formed i.1.within, Contains-append_left w.lits (point_lits point) o, d.sorted.kept.all o f, Contains-append_right w.lits (point_lits point) o, waits_kept core w point o i.0 d.left d.sorted i.1, waits_some (w.stamp + 3) w.marks o.var, ⊎_elim)

-- so it is out before a place at which it is false
out_at : (core : CoreValue) (conflict : ℕ) (w : WalkValue) (point : Option LitValue) (before : List StepValue) (o : LitValue) → IsEnded core conflict w point → IsSeen w o → IsFalse (trues core) o → Contains (lits_of before) (negation o) → IsOut (resolved_by w) before (w.lits ++ point_lits point) o
out_at core conflict w point before o d seen f c = ⊎_elim
    (λ k. inl k)
    (λ r.
    let s = from_map (λ x. x.lit) before (negation o) c in
    inr (s.0, s.1, eq-eqb (mark_of w s.0.lit) (w.stamp + 2) (ap (mark_of w) s.2 ∙ r), s.2))
    (kept_or_resolved core conflict w point o d seen f)

-- a literal of the clause is false
kept_false : (core : CoreValue) (w : WalkValue) (point : Option LitValue) (o : LitValue) → IsSorted core w → MatchOption point (length core.limits ≡ 0) (λ l. IsImplicationPoint core w l × (0 < length core.limits)) → Contains (w.lits ++ point_lits point) o → IsFalse (trues core) o
kept_false core w None o s p c = let e : w.lits ++ [] ≡ w.lits = append-nil w.lits in (s.kept.of o (subst (λ xs. Contains xs o) e c)).1
kept_false core w (Some l) o s p c = ⊎_elim
    (λ h. (s.kept.of o h).1)
    (λ e. subst (λ x. IsFalse (trues core) x) e (subst (λ x. Contains (trues core) x) (p.0.is ∙ sym (negated_twice l)) (lit_stands core p.0.place p.0.within)))
    (Contains-push_cases w.lits (negation l) o c)

ended_analysis : (core : CoreValue) (conflict : ℕ) (w : WalkValue) (point : Option LitValue) → IsEnded core conflict w point → IsAnalysis core.clauses core.trail (resolved_by w) conflict (w.lits ++ point_lits point)
ended_analysis core conflict w point d = record {
  each = λ k x v t.
      let at : get_or core.trail k x ≡ step_at core k = get_or_default core.trail k x no_step v in
      let m : mark_of w (lit_at core k) ≡ w.stamp + 2 = eqb-true (mark_of w (lit_at core k)) (w.stamp + 2) (ap (resolved_by w) (sym at) ∙ t) in
      let r = (d.passed.each k v m).1 in
      subst (IsResolved core.clauses (resolved_by w) (w.lits ++ point_lits point) (take k core.trail)) (sym at) (record {
        id = r.id;
        reason = r.reason;
        within = r.within;
        stands = r.stands;
        others = λ o c. ⊎_elim (λ e. inl e) (λ h. inr (out_at core conflict w point (take k core.trail) o d h.0 (in_front k (trues core) (negation o) (subst (λ xs. Contains xs (negation o)) (sym (take-map (λ s. s.lit) k core.trail)) h.1)) h.1)) (r.others o c);
      });
  within = d.conflicts.within;
  last = λ o c. let f = d.conflicts.falsified o c in out_at core conflict w point core.trail o d (d.met o c) f f;
  falses = λ o c. kept_false core w point o d.sorted d.left c;
}

ended_once : (core : CoreValue) (w : WalkValue) (point : Option LitValue) → IsSorted core w → ((o : LitValue) → Contains w.lits o → mark_of w o ≡ w.stamp) → MatchOption point (length core.limits ≡ 0) (λ l. IsImplicationPoint core w l × (0 < length core.limits)) → AllPairs (λ a b. a.var ≢ b.var) (w.lits ++ point_lits point)
ended_once core w None s x p = subst (AllPairs (λ a b. a.var ≢ b.var)) (sym (append-nil w.lits)) s.kept.once
ended_once core w (Some l) s exact p = all_pairs_push (λ a b. a.var ≢ b.var) w.lits (negation l) s.kept.once (λ k x v e. grind (arith, exact (get_or w.lits k x) (Contains-get_or w.lits k x v), p.0.waits))

ended_closes : (core : CoreValue) (w : WalkValue) (point : Option LitValue) → IsSorted core w → ((o : LitValue) → Contains w.lits o → mark_of w o ≡ w.stamp) → MatchOption point (length core.limits ≡ 0) (λ l. IsImplicationPoint core w l × (0 < length core.limits)) → length core.limits ≡ 0 → w.lits ++ point_lits point ≡ []
ended_closes core w None s exact p z = append-nil w.lits ∙ nil_by w.lits (λ o c. let i = false_at core o (s.kept.of o c).1 in grind (arith, s.marked.low i.0 i.1.within, i.1.var, exact o c))
ended_closes core w (Some l) s exact p z = absurd (omega (arith, p.1, z))

ended_points : (core : CoreValue) (conflict : ℕ) (w : WalkValue) (point : Option LitValue) → IsConflict core conflict → IsSorted core w → ((o : LitValue) → Contains w.lits o → mark_of w o ≡ w.stamp) → MatchOption point (length core.limits ≡ 0) (λ l. IsImplicationPoint core w l × (0 < length core.limits)) → 0 < length core.limits → IsPointed core (w.lits ++ point_lits point)
ended_points core conflict w None c s exact p some = absurd (omega (arith, p, some))
ended_points core conflict w (Some l) c s exact p some = record {
  front = w.lits;
  point = negation l;
  is = refl;
  open_ = λ last e.
      let q : mark_of w (lit_at core p.0.place) ≡ w.stamp + 1 = ap (mark_of w) p.0.is ∙ p.0.waits in
      open_below core (negation l) p.0.place (get_or core.limits last 0) c.formed p.0.within (ap (λ x. x.var) p.0.is) (high_place core.limits last p.0.place e (s.marked.top p.0.place p.0.within q).0);
  lower = λ last e o k.
      let i = false_at core o (s.kept.of o k).1 in
      let low = s.marked.low i.0 i.1.within (ap (λ v. get_or w.marks v 0) i.1.var ∙ exact o k) in
      false_below core o i.0 (get_or core.limits last 0) i.1 (low_place core.limits (length core.trail) last i.0 c.formed.levels e low) (grind (arith, c.formed.levels.below last));
}

pub learned_by : (core : CoreValue) (conflict : ℕ) (w : WalkValue) (point : Option LitValue) (line : ProofLineValue) → IsEnded core conflict w point → line.id ≡ length core.clauses + 1 → line.lits ≡ w.lits ++ point_lits point → line.hints ≡ reverse w.hints ++ pos (conflict + 1) ∷ [] → IsLearned core conflict line
learned_by core conflict w point line d id lits hints = record {
  resolved = resolved_by w;
  analysis = subst (IsAnalysis core.clauses core.trail (resolved_by w) conflict) (sym lits) (ended_analysis core conflict w point d);
  hints = hints ∙ ap (λ hs. hs ++ pos (conflict + 1) ∷ []) d.passed.hints;
  id = id;
  once = subst (AllPairs (λ a b. a.var ≢ b.var)) (sym lits) (ended_once core w point d.sorted d.exact d.left);
  closes = λ z. lits ∙ ended_closes core w point d.sorted d.exact d.left z;
  points = λ some. subst (IsPointed core) (sym lits) (ended_points core conflict w point d.conflicts d.sorted d.exact d.left some);
}
