use Rattle.std.proofs.{Common.{◌^◌, ◌<◌, ◌≤◌, ℕ, ap, sym, ◌∙◌, arith, ◌==◌}, Math.Nat.pow-le-pow_right, lemmas.Bool.le-ltb}
use Rattle.node_cuts.proofs.Masks.{bit_past}
use Rattle.node_cuts.proofs.mask.has_any_node.Goals as goal

pub returns-else-node-lt16 : goal.returns-else-node-lt16
returns-else-node-lt16 c =
    let n : ℕ = c.args.node in
    let two : 0 < 2 = omega arith in
    let low : 2 ^ 16 ≤ 2 ^ n = pow-le-pow_right two c.if-node-lt16.false in
    le-ltb n 16 c.if-node-lt16.false ∙ ap (λ v. v == 1) (sym (bit_past n c.args.nodes (omega (arith, low, c.ranges.nodes.fits))))
