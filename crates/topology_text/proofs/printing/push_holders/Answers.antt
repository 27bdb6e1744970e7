use Rattle.std.proofs.Common.{◌≡◌, ℕ, Bool, ◌++◌, map, sym, ap, ◌∙◌}
use Rattle.text_lines.specs.Text.{fields}
use Rattle.schedule.specs.Placed.{holds}
use Rattle.topology_text.specs.Spelling.{name_at}
use Rattle.topology_text.proofs.{Printed.{appended_more, name_more, name_skipped}, printing.push_holders.Goals.{then-holds+in_ok-push_node_field, else-holds}}
use Rattle.topology_text.proofs.printing.push_holders.Goals as goal

pub loop-node-preserved : goal.loop-node-preserved
loop-node-preserved c =
    let names = c.args.names.now in
    let n = c.loop-node.node in
    let holding : ℕ → Bool = λ node. holds c.args.held.now (c.args.chunk, node) in
    let test : c.holds.result ≡ holding n = c.holds.ensures.held ∙ ap (λ g. holds c.args.held.now (g, n)) c.from-in-loop-node.ensures in
    elim c.if-holds.branch [
      | then-holds+in_ok-push_node_field w ↦ ap (λ v. v.items) w.out-is ∙ appended_more _ _ _ _ _ _ c.loop-node.invariant w.in_ok-push_node_field.ensures (name_more names holding n (sym test ∙ w.if-holds.true))
      | else-holds w ↦ ap (λ v. v.items) w.out-is ∙ c.loop-node.invariant ∙ ap (λ ns. c.push_number.new.out.items ++ fields (map (name_at names) ns)) (sym (name_skipped holding n (sym test ∙ w.if-holds.false)))
    ]
