use Rattle.std.proofs.Common.{◌≡◌, ◌-◌, length, sym, ◌∙◌, subst, arith, All}
use Rattle.cnf_formula.specs.{Literals.LitValue, Formulas.IsAbout}
use Rattle.trail_core.specs.{Search.IsUnit, Meaning.trues, Kept.{IsDue, CanAdd}}
use Rattle.sat_core.{specs.inner.Jumping.gone_back, proofs.Jumping.{IsJump, jump_unit, jump_can, jump_due, backed_some, backed_within, backed_differ, last_is}}
use Rattle.sat_core.proofs.backjump.jump.Goals as goal

pub learn-requires : goal.learn-requires
learn-requires c =
    let core = c.args.core.now in
    let lits = c.args.lits.now in
    let level = c.args.level in
    let backed = c.requires.backed in
    let p = backed.pointed in
    let j : IsJump core lits level = record { formed = c.requires.formed; backed = backed; above = c.requires.above; top = c.requires.top; attained = c.requires.attained } in
    let b : gone_back core level ≡ c.back_to.new.self = sym (c.back_to.ensures.back c.requires.above) in
    let some = backed_some core lits backed in
    let x : LitValue = c.index-lits-lits.result in
    let at : x ≡ p.point = c.index-lits-lits.is ∙ last_is p.front lits p.point x (length lits - 1) p.is (omega (arith, some)) in
    record {
      within = subst (λ y. All (IsAbout y.vars) lits) b (backed_within core lits c.requires.formed backed);
      once = backed_differ core lits backed;
      place = subst (λ y. CanAdd y lits) b (jump_can core lits level j);
      alone = subst (λ y. IsUnit (trues y) lits x) b (subst (IsUnit (trues (gone_back core level)) lits) (sym at) (jump_unit core lits level j));
      due = subst (λ y. IsDue y.limits y.trail lits) b (jump_due core lits level j);
    }
