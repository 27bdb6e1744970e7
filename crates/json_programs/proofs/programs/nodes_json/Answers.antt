use Rattle.std.{proofs.Common.{map, sym, ◌∙◌}, specs.List.range_with_len}
use Rattle.json_rules.specs.ProgramsJson.{node_json}
use Rattle.json_values.proofs.Printing.{pushed, numbered_more}
use Rattle.json_programs.proofs.programs.nodes_json.Goals as goal

pub loop-node-preserved : goal.loop-node-preserved
loop-node-preserved c =
    let made = node_json c.args.names.now c.args.programs.now in
    let n = c.loop-node.node in
    pushed c.loop-node.values.items c.push.new.self.items c.in_ok-node_json.field-0 (map made (range_with_len 0 n)) (made n) c.in_ok-push.ensures.items c.loop-node.invariant c.in_ok-node_json.ensures ∙ sym (numbered_more made n)
