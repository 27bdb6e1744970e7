use Rattle.std.proofs.{Common.{◌≡◌, ◌+◌, ◌++◌, get_or, arith, rules}, lemmas.List.{take_all, FromFn.length-enumerate_from}}
use Rattle.send_encoding.{specs.Sent.hop_over, proofs.Picking.{appends_numbered, appends_after}}
use Rattle.send_encoding.proofs.decoding.sends_of.Goals as goal

pub loop-number-preserved : goal.loop-number-preserved
loop-number-preserved c =
    let k = c.loop-number.number in
    let xs = c.links-link-items.result.now in
    let here : c.if-is_true.hops.items ≡ c.loop-number.hops.items ++ hop_over c.args.map.now c.args.assignment.now (c.loop-index.index + 1) c.loop-chunk.chunk (k, get_or xs k (0, 0)) = search rules in
    appends_numbered c.loop-chunk.hops.items c.loop-number.hops.items c.if-is_true.hops.items (hop_over c.args.map.now c.args.assignment.now (c.loop-index.index + 1) c.loop-chunk.chunk) xs k (0, 0) c.loop-number-test.true c.loop-number.invariant here

pub loop-chunk-preserved : goal.loop-chunk-preserved
loop-chunk-preserved c = grind (arith, length-enumerate_from, take_all, appends_after)
