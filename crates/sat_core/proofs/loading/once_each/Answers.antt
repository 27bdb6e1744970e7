use Rattle.std.proofs.{Common.{arith, ap, ◌∙◌, length, subst, sym, take, ◌+◌}, lemmas.List.{length-set, take_all}}
use Rattle.sat_core.{specs.inner.Holding.IsSame, proofs.{Loaded.{IsKeeping, keeping_new, keeping_old}, loading.once_each.Goals.{then-marks_at+in_ok-push, else-marks_at}}}
use Rattle.sat_core.proofs.loading.once_each.Goals as goal

pub loop-lit-preserved : goal.loop-lit-preserved
loop-lit-preserved c =
    let i = c.loop-lit.invariant in
    let e = c.marks_at.ensures in
    let keeping : IsKeeping (take (c.loop-lit.lit-index + 1) c.args.lits.now) c.if-marks_at.kept.items c.marks_at.new.seen.items c.args.mark = elim c.if-marks_at.branch [
      | then-marks_at+in_ok-push b ↦ keeping_new c.args.lits.now c.loop-lit.kept.items _ c.loop-lit.seen.items _ c.args.mark c.loop-lit.lit-index c.lit-item.result i.keeping c.loop-lit-test.true c.lit-item.is e.marked (e.other b.if-marks_at.true) e.lit.1 e.lit.0 (ap (λ v. v.items) b.kept-is ∙ b.in_ok-push.ensures.items)
      | else-marks_at b ↦ subst (λ v. IsKeeping (take (c.loop-lit.lit-index + 1) c.args.lits.now) v.items c.marks_at.new.seen.items c.args.mark) (sym b.kept-is) (keeping_old c.args.lits.now c.loop-lit.kept.items c.loop-lit.seen.items _ c.args.mark c.loop-lit.lit-index c.lit-item.result i.keeping c.loop-lit-test.true c.lit-item.is e.marked (e.same b.if-marks_at.false))
    ] in
    record { len = ap length e.marked ∙ length-set c.loop-lit.seen.items _ c.args.mark ∙ i.len; keeping = keeping }

pub returns-clause-same : goal.returns-clause-same
returns-clause-same c =
    subst (λ xs. IsSame xs c.loop-lit.kept.items) (take_all c.loop-lit.lit-index c.args.lits.now (omega (arith, c.loop-lit-test.false))) (record { into = c.loop-lit.invariant.keeping.into; from = c.loop-lit.invariant.keeping.from })
