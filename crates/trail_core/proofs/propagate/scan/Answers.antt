use Rattle.std.proofs.{Common.{◌≡◌, ◌-◌, ◌<◌, get_or, refl, sym, ap, ◌∙◌, subst, inl, inr, ⊎_elim, arith}, lemmas.Bool.cases_lt}
use Rattle.cnf_formula.specs.Literals.{negation, code_of}
use Rattle.trail_core.{specs.{Trails.lits_of, Watching.{watch_count, row_at, list_at}, Search.IsSatisfied}, proofs.{Scans.{implied_grows, scanned_trans, satisfied_grows}}}
use Rattle.trail_core.proofs.propagate.scan.Goals as goal

pub returns-in-Some-clause-scanned : goal.returns-in-Some-clause-scanned
returns-in-Some-clause-scanned c = scanned_trans c.args.falsified c.args.store.now c.loop-place.store c.visit.new.store c.args.trail.now c.loop-place.trail c.visit.new.trail c.loop-place.invariant.scanned c.visit.ensures.scanned

pub loop-place-preserved : goal.loop-place-preserved
loop-place-preserved c =
    let l = c.loop-place in
    let i = l.invariant in
    let v = c.visit.new in
    let s = c.visit.ensures.scanned in
    let k = code_of c.args.falsified in
    let after = satisfied_grows c.args.falsified l.store v.store l.trail v.trail s in
    record {
      can = c.visit.ensures.can;
      scanned = scanned_trans c.args.falsified c.args.store.now l.store v.store c.args.trail.now l.trail v.trail i.scanned s;
      of = record { some = i.of.some; within = omega (arith, i.of.within, s.vars) };
      is_false = implied_grows s.implied (negation c.args.falsified) i.is_false;
      long = c.visit.ensures.long;
      done = λ e h. ⊎_elim
          (λ h0. ⊎_elim
          (λ sat. inl (after e sat))
          (λ q. ⊎_elim
          (λ lt. inr (q.0, lt, c.visit.ensures.front q.0 lt ∙ q.2))
          (λ ge.
          let p : q.0 ≡ l.place - 1 = omega (arith, ge, q.1) in
          let is : get_or (list_at l.lists.lists k) (l.place - 1) 0 ≡ e = ap (λ n. get_or (list_at l.lists.lists k) n 0) (sym p) ∙ q.2 in
          inl (subst (λ n. IsSatisfied (lits_of v.trail.steps) (row_at v.store n).lits) is (c.in_default.ensures.handled (subst (λ n. 0 < watch_count (row_at v.store n) k) (sym is) h))))
          (cases_lt q.0 (l.place - 1)))
          (i.done e h0))
          (λ n. absurd (n c.args.falsified refl i.is_false))
          (s.watches e k h);
    }
