use Rattle.std.proofs.{Common.{◌≡◌, get_or, refl, sym, ap, ◌∙◌, subst, ⊎_elim, arith}, lemmas.{Bool.cases_lt, List.get_or_default}}
use Rattle.trail_core.{specs.{Trails.lits_of, Watching.{row_at, AreRows}, Search.{IsSatisfied}}, proofs.{Visits.implied_same, Scans.{implied_trans, implied_grows}}}
use Rattle.trail_core.proofs.propagate.settle_all.Goals as goal

pub loop-id-init : goal.loop-id-init
loop-id-init c = record { are_rows = c.requires.rows; vars = refl; limits = refl; bottom = c.requires.bottom; implied = implied_same _ _ _; settled = λ k w. absurd (omega (arith, w)) }

pub loop-id-preserved : goal.loop-id-preserved
loop-id-preserved c =
    let i = c.loop-id.invariant in
    let e = c.settle.ensures in
    let t' = c.settle.new.trail in
    let vars : t'.vars ≡ c.loop-id.trail.vars = ap (λ u. u.vars) e.same in
    let limits : t'.limits ≡ c.loop-id.trail.limits = ap (λ u. u.limits) e.same in
    record {
      are_rows = subst (λ n. AreRows n c.args.store.now) (sym vars) i.are_rows;
      vars = vars ∙ i.vars;
      limits = limits ∙ i.limits;
      bottom = limits ∙ i.bottom;
      implied = implied_trans i.implied e.implied;
      settled = λ k w. ⊎_elim
          (λ v. let s = i.settled k v in (s.0, s.1, implied_grows e.implied s.0 s.2))
          (λ v. let p : c.loop-id.id-index ≡ k = omega (arith, v, w) in subst (λ n. IsSatisfied (lits_of t'.steps) (row_at c.args.store.now (get_or c.args.short.now n 0)).lits) p (e.settled c.if-not-settle.false))
          (cases_lt k c.loop-id.id-index);
    }

pub returns-clause-settled : goal.returns-clause-settled
returns-clause-settled c = λ k d w. subst (λ e. IsSatisfied (lits_of c.loop-id.trail.steps) (row_at c.args.store.now e).lits) (get_or_default c.args.short.now k 0 d w) (c.loop-id.invariant.settled k (omega (arith, w, c.loop-id-test.false)))
