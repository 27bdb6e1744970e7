use Rattle.std.{proofs.Common.{◌∷◌, [], ap, map, sym, ◌∙◌}, proofs.lemmas.List.map-append, specs.List.range_with_len}
use Rattle.json_values.{specs.inner.Holders.{held, holders_json}, proofs.Printing.{pushed, numbered_more}}
use Rattle.json_values.proofs.topology_printing.placement_json.Goals as goal

pub loop-chunk-preserved : goal.loop-chunk-preserved
loop-chunk-preserved c =
    let made = holders_json c.args.names.now in
    let holding = held c.args.held.now in
    let n = c.loop-chunk.chunk in
    pushed c.loop-chunk.list.items c.push.new.self.items c.in_ok-holders_json.field-0 (map made (map holding (range_with_len 0 n))) (made (holding n)) c.in_ok-push.ensures.items c.loop-chunk.invariant c.in_ok-holders_json.ensures
    ∙ sym (ap (map made) (numbered_more holding n) ∙ map-append made (map holding (range_with_len 0 n)) (holding n ∷ []))
