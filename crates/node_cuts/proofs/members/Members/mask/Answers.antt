use Rattle.std.proofs.Common.{◌≤◌, ◌+◌, ◌*◌, ℕ, Bool, ap, sym, ◌∙◌, arith}
use Rattle.node_cuts.{specs.{Sides.mask_of, inner.Listed.members}, proofs.{Masks.{mask_below, small_bit, mask_yes, mask_no, bit_more}, members.Members.mask.Goals.{then-has, else-has}}}
use Rattle.node_cuts.proofs.members.Members.mask.Goals as goal

pub overflow_add-mask : goal.overflow_add-mask
overflow_add-mask c =
    let n : ℕ = c.loop-node.node in
    omega (arith, c.loop-node.invariant.mask, c.loop-node.invariant.bit, mask_below (members c.args.self) n, small_bit n (omega (arith, c.loop-node-test.true, c.requires)))

pub loop-node-preserved : goal.loop-node-preserved
loop-node-preserved c =
    let u : ℕ → Bool = members c.args.self in
    let n : ℕ = c.loop-node.node in
    record {
      mask = elim c.if-has.branch [
        | then-has w ↦ w.mask-is ∙ ap (λ m. m + c.loop-node.bit) c.loop-node.invariant.mask ∙ ap (λ b. mask_of n u + b) c.loop-node.invariant.bit ∙ sym (mask_yes u n (sym c.has.ensures ∙ w.if-has.true))
        | else-has w ↦ w.mask-is ∙ c.loop-node.invariant.mask ∙ sym (mask_no u n (sym c.has.ensures ∙ w.if-has.false))
      ];
      bit = ap (λ b. b * 2) c.loop-node.invariant.bit ∙ sym (bit_more n);
    }

pub overflow_cast-result : goal.overflow_cast-result
overflow_cast-result c =
    let n : ℕ = c.loop-node.node in
    let low : n ≤ 16 = omega (arith, c.loop-node.auto.node-end, c.requires) in
    omega (arith, c.loop-node.invariant.mask, mask_below (members c.args.self) n, small_bit n low)
