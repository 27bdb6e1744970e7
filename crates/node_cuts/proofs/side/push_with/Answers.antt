use Rattle.std.proofs.Common.{◌++◌, ◌∷◌, [], arith, sym, ap, ◌∙◌}
use Rattle.node_cuts.{specs.declared.side.Side.TheVariants.Two, proofs.Listing.twos_more}
use Rattle.node_cuts.proofs.side.push_with.Goals as goal

pub loop-second-preserved : goal.loop-second-preserved
loop-second-preserved c =
    let a = c.args.first in
    let b = c.loop-second.second in
    record {
      from = omega (arith, c.loop-second.invariant.from);
      sides = c.in_ok-push.ensures.items ∙ ap (λ xs. xs ++ Two a b ∷ []) c.loop-second.invariant.sides ∙ sym (twos_more c.args.sides.now.items a b c.loop-second.invariant.from);
    }
