use Rattle.std.proofs.{Common.{ℕ, [], ◌∷◌, ◌++◌, List, sym, ap, ◌∙◌, arith}, lemmas.List.FromFn.map-range_with_len_more}
use Rattle.node_programs.specs.declared.op.Op.{Op}
use Rattle.node_programs.proofs.programming.no_operations.Goals as goal

pub loop-node-preserved : goal.loop-node-preserved
loop-node-preserved c =
    let none : ℕ → List Op = λ node. [] in
    c.in_ok-push.ensures.items ∙ ap (λ ops. c.loop-node.programs.items ++ ops ∷ []) c.new.ensures ∙ ap (λ ps. ps ++ [] ∷ []) c.loop-node.invariant
    ∙ sym (map-range_with_len_more none 0 c.loop-node._node c.loop-node._node (omega arith))
