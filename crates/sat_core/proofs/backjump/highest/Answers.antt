use Rattle.std.proofs.{Common.{sym, subst, inl, inr, arith, Contains}, lemmas.List.take_all}
use Rattle.cnf_formula.specs.Literals.{LitValue}
use Rattle.trail_core.specs.Meaning.{trues}
use Rattle.sat_core.{specs.inner.Jumping.AreUpTo, proofs.{Jumping.{highest_more}, backjump.highest.Goals.{then-level-top, else-level-top}}}
use Rattle.sat_core.proofs.backjump.highest.Goals as goal

pub level-level-requires : goal.level-level-requires
level-level-requires c =
    let x : LitValue = c.lit-item.result in
    subst (λ l. Contains (trues c.args.core.now) l) (sym c.negated.ensures) (c.requires x (c.loop-lit.lit-index, c.loop-lit-test.true, sym c.lit-item.is))

pub loop-lit-preserved : goal.loop-lit-preserved
loop-lit-preserved c =
    let x : LitValue = c.lit-item.result in
    let f = c.requires x (c.loop-lit.lit-index, c.loop-lit-test.true, sym c.lit-item.is) in
    let more = highest_more c.args.core.now c.args.lits.now c.loop-lit.lit-index x c.negated.result c.loop-lit.top c.level-level.result c.if-level-top.top c.loop-lit-test.true c.lit-item.is c.negated.ensures f c.level-level.ensures c.loop-lit.invariant in
    elim c.if-level-top.branch [
      | then-level-top b ↦ more (omega (arith, b.top-is, b.if-level-top.true)) (omega (arith, b.top-is)) (inr b.top-is)
      | else-level-top b ↦ more (omega (arith, b.top-is)) (omega (arith, b.top-is, b.if-level-top.false)) (inl b.top-is)
    ]

pub returns-clause-top : goal.returns-clause-top
returns-clause-top c = subst (λ xs. AreUpTo c.args.core.now xs c.loop-lit.top) (take_all c.loop-lit.lit-index c.args.lits.now (omega (arith, c.loop-lit-test.false))) c.loop-lit.invariant.up_to
