use Rattle.std.proofs.Common.{sym, subst, Contains}
use Rattle.cnf_formula.specs.Literals.{LitValue}
use Rattle.trail_core.specs.Meaning.{trues}
use Rattle.conflict_analysis.proofs.glue.Glue.count.Goals as goal

pub level-level-requires : goal.level-level-requires
level-level-requires c =
    let x : LitValue = c.lit-item.result in
    subst (λ l. Contains (trues c.args.core.now) l) (sym c.negated.ensures) (c.requires x (c.loop-lit.lit-index, c.loop-lit-test.true, sym c.lit-item.is))
