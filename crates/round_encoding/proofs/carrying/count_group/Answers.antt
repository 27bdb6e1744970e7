use Rattle.std.proofs.{Common.{◌≡◌, ◌+◌, ◌*◌, arith, sym, ap, ◌∙◌, subst}, lemmas.Result.on_ok_weaker}
use Rattle.cnf_formula.specs.Formulas.{FormulaValue, IsClause}
use Rattle.round_encoding.{specs.{Frames.Frame, Rounding.count_of_group}, proofs.Carried.{same_room, inputs_about, counts_grow}}
use Rattle.round_encoding.proofs.carrying.count_group.Goals as goal

pub count_up_to-requires-clause-about : goal.count_up_to-requires-clause-about
count_up_to-requires-clause-about c =
    let f : Frame = record { map = c.args.variables.now; extra = c.args.extra } in
    let is : c.deref.result.now ≡ (count_of_group f c.args.step c.args.group.now).inputs = c.deref.ensures.value ∙ c.in_ok-inputs.ensures in
    subst (IsClause c.args.formula.now.vars) (sym is) (inputs_about f c.args.step c.args.group.now c.args.formula.now.vars c.requires.vars c.requires.step c.requires.chunks c.width-width.ensures.limits c.requires.links)

pub count_up_to-requires-clause-few : goal.count_up_to-requires-clause-few
count_up_to-requires-clause-few c =
    let f : Frame = record { map = c.args.variables.now; extra = c.args.extra } in
    let is : c.deref.result.now ≡ (count_of_group f c.args.step c.args.group.now).inputs = c.deref.ensures.value ∙ c.in_ok-inputs.ensures in
    omega (arith, same_room f c.args.step c.args.group.now c.args.formula.now.vars (c.from.result * (1 + c.from-2.result)) c.deref.result.now is (cc), c.requires.small)

pub push_said-requires-clause-small : goal.push_said-requires-clause-small
push_said-requires-clause-small c =
    let f : Frame = record { map = c.args.variables.now; extra = c.args.extra } in
    let is : c.deref.result.now ≡ (count_of_group f c.args.step c.args.group.now).inputs = c.deref.ensures.value ∙ c.in_ok-inputs.ensures in
    omega (arith, same_room f c.args.step c.args.group.now c.args.formula.now.vars (c.from.result * (1 + c.from-2.result)) c.deref.result.now is (cc), c.requires.small, c.in_ok-outputs.ensures.few)

pub returns-clause-formula : goal.returns-clause-formula
returns-clause-formula c =
    let f : Frame = record { map = c.args.variables.now; extra = c.args.extra } in
    let is : c.deref.result.now ≡ (count_of_group f c.args.step c.args.group.now).inputs = c.deref.ensures.value ∙ c.in_ok-inputs.ensures in
    on_ok_weaker c.push_said.result (λ e.
    counts_grow f c.args.step c.args.group.now c.args.formula.now c.count_up_to.new.formula c.push_said.new.formula c.deref.result.now c.deref-2.result.now c.width-width.result (c.from.result * (1 + c.from-2.result))
    is c.width-width.ensures.width (cc) c.in_ok-outputs.ensures.formula (c.deref-2.ensures.value ∙ c.in_ok-outputs.ensures.outputs) e) c.push_said.ensures

pub returns-clause-few : goal.returns-clause-few
returns-clause-few c =
    let f : Frame = record { map = c.args.variables.now; extra = c.args.extra } in
    let is : c.deref.result.now ≡ (count_of_group f c.args.step c.args.group.now).inputs = c.deref.ensures.value ∙ c.in_ok-inputs.ensures in
    let same = same_room f c.args.step c.args.group.now c.args.formula.now.vars (c.from.result * (1 + c.from-2.result)) c.deref.result.now is (cc) in
    on_ok_weaker c.push_said.result (λ e. omega (arith, ap (λ (f : FormulaValue). f.vars) e, c.in_ok-outputs.ensures.few, same)) c.push_said.ensures
