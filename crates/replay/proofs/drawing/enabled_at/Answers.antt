use Rattle.std.proofs.Common.{◌≡◌, ◌<◌, length, refl, sym, ap, ◌∙◌, arith}
use Rattle.node_programs.specs.Machines.{is_enabled}
use Rattle.replay.proofs.{Drawn.{count_fails, count_passes, found_at, found_none, passing}, drawing.enabled_at.Goals.{then-enabled+else-before-eq0, else-enabled}}
use Rattle.replay.proofs.drawing.enabled_at.Goals as goal

pub returns-then-before-eq0-clause-node : goal.returns-then-before-eq0-clause-node
returns-then-before-eq0-clause-node c =
    let p = is_enabled c.args.machine.now in
    let inside : c.loop-node.node < length c.args.machine.now.left = omega (arith, c.loop-node-test.true, c.nodes-node-end.ensures.nodes, c.nodes-node-end.ensures.programs) in
    let rank : c.args.rank ≡ length (passing p c.loop-node.node) = omega (arith, c.loop-node.invariant, c.if-before-eq0.true) in
    found_at p c.loop-node.node (length c.args.machine.now.left) c.args.rank inside (sym c.enabled.ensures ∙ c.if-enabled.true) rank

pub loop-node-preserved : goal.loop-node-preserved
loop-node-preserved c =
    let p = is_enabled c.args.machine.now in
    elim c.if-enabled.branch [
      | then-enabled+else-before-eq0 w ↦ let more = count_passes p c.loop-node.node (length (passing p c.loop-node.node)) refl (sym c.enabled.ensures ∙ w.if-enabled.true) in omega (arith, w.before-is, c.loop-node.invariant, w.if-before-eq0.false, more)
      | else-enabled w ↦ let more = count_fails p c.loop-node.node (length (passing p c.loop-node.node)) refl (sym c.enabled.ensures ∙ w.if-enabled.false) in omega (arith, w.before-is, c.loop-node.invariant, more)
    ]

pub returns-clause-node : goal.returns-clause-node
returns-clause-node c =
    let p = is_enabled c.args.machine.now in
    let all : c.loop-node.node ≡ length c.args.machine.now.left = omega (arith, c.loop-node-test.false, c.loop-node.auto.node-end, c.nodes-node-end.ensures.nodes, c.nodes-node-end.ensures.programs) in
    found_none p (length c.args.machine.now.left) c.args.rank (omega (arith, c.loop-node.invariant, ap (λ n. length (passing p n)) all))
