use Rattle.std.proofs.{Common.{◌+◌, ◌*◌, ◌<◌, length, arith, sym, subst}, lemmas.List.get_or_read, Math.Nat.mul-le-mul_left}
use Rattle.cnf_formula.{specs.Formulas.IsAbout, proofs.{Clauses.negation_about, Growing.grows_by_one}}
use Rattle.send_encoding.proofs.About.{two}
use Rattle.round_encoding.proofs.carrying.push_said.Goals as goal

pub add-requires : goal.add-requires
add-requires c =
    let v = c.loop-index.formula.vars in
    let k = c.args.width * (c.loop-index.index + 1) in
    let full = c.index-outputs-width.result in
    let low : k < length c.args.outputs.now = grind (arith, mul-le-mul_left) in
    let about : IsAbout v full = subst (IsAbout v) (sym (get_or_read c.args.outputs.now k full low c.index-outputs-width.is full)) (grind (arith, c.requires.outputs k full low)) in
    two v c.negated.result c.extra_round.result (grind (arith, negation_about v full about)) (grind arith)

pub loop-index-preserved : goal.loop-index-preserved
loop-index-preserved c = grind (arith, mul-le-mul_left, get_or_read, grows_by_one)
