use Rattle.std.proofs.Common.{sym, subst, Contains}
use Rattle.cnf_formula.specs.Literals.{LitValue}
use Rattle.trail_core.specs.Meaning.{trues}
use Rattle.conflict_analysis.proofs.sought.Sought.count.Goals as goal

pub level-level-requires : goal.level-level-requires
level-level-requires c =
    let x : LitValue = c.index-lits-self.result in
    subst (λ l. Contains (trues c.args.core.now) l) (sym c.negated.ensures) (c.requires x (c.loop-self.self.counted, c.loop-self-test.true, sym c.index-lits-self.is))
