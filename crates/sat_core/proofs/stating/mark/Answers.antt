use Rattle.std.proofs.Common.{[], ◌∷◌, sym, subst}
use Rattle.cnf_formula.specs.Literals.{LitValue}
use Rattle.sat_core.{specs.inner.Stating.AreStated, proofs.Stated.{stated_one, alone_is}}
use Rattle.sat_core.proofs.stating.mark.Goals as goal

pub returns-in-len1-clause-this : goal.returns-in-len1-clause-this
returns-in-len1-clause-this c =
    let x : LitValue = c.lit-item.result in
    subst (λ xs. AreStated (xs ∷ []) c.mark_one.new.stated.items) (sym (alone_is c.args.lits.now x c.in-len1.len_at_least c.in-len1.len_below c.lit-item.is)) (stated_one c.mark_one.new.stated.items x c.mark_one.ensures.this)
