use Rattle.std.proofs.{Common.{◌≡◌, ◌<◌, length, arith, sym, ap, ◌∙◌, subst}, lemmas.Result.on_ok_weaker}
use Rattle.cnf_formula.specs.Formulas.{FormulaValue, IsClause}
use Rattle.round_encoding.{specs.{Frames.Frame, Rounding.count_of_rounds}, proofs.Rounded.{same_space, extra_some, extra_inputs_about}}
use Rattle.round_encoding.proofs.rounding.count_extra.Goals as goal

pub count_up_to-requires-clause-some : goal.count_up_to-requires-clause-some
count_up_to-requires-clause-some c =
    let f : Frame = record { map = c.args.variables.now; extra = c.args.extra } in
    let is : c.deref.result.now ≡ (count_of_rounds f).inputs = c.deref.ensures.value ∙ c.in_ok-inputs.ensures in
    subst (λ ls. 0 < length ls) (sym is) (extra_some f c.requires.steps c.requires.some)

pub count_up_to-requires-clause-about : goal.count_up_to-requires-clause-about
count_up_to-requires-clause-about c =
    let f : Frame = record { map = c.args.variables.now; extra = c.args.extra } in
    let is : c.deref.result.now ≡ (count_of_rounds f).inputs = c.deref.ensures.value ∙ c.in_ok-inputs.ensures in
    subst (IsClause c.args.formula.now.vars) (sym is) (extra_inputs_about f c.args.formula.now.vars c.requires.vars c.requires.steps c.requires.some)

pub count_up_to-requires-clause-few : goal.count_up_to-requires-clause-few
count_up_to-requires-clause-few c =
    let f : Frame = record { map = c.args.variables.now; extra = c.args.extra } in
    let is : c.deref.result.now ≡ (count_of_rounds f).inputs = c.deref.ensures.value ∙ c.in_ok-inputs.ensures in
    omega (arith, same_space f c.args.formula.now.vars c.from.result c.deref.result.now is (cc), c.requires.small)

pub returns-clause-few : goal.returns-clause-few
returns-clause-few c =
    let f : Frame = record { map = c.args.variables.now; extra = c.args.extra } in
    let is : c.deref.result.now ≡ (count_of_rounds f).inputs = c.deref.ensures.value ∙ c.in_ok-inputs.ensures in
    let same = same_space f c.args.formula.now.vars c.from.result c.deref.result.now is (cc) in
    on_ok_weaker c.add.result (λ e. omega (arith, ap (λ (f : FormulaValue). f.vars) e, c.in_ok-outputs.ensures.few, same)) c.add.ensures.added
