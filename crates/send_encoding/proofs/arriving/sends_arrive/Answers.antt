use Rattle.std.{proofs.Common.{arith, rules, ◌≡◌, ◌+◌, ◌-◌, get_or, append_assoc}, specs.List.{flat_map, enumerate_from}}
use Rattle.cnf_formula.{specs.Formulas.with_clauses, proofs.Growing.{grows_more, grows_numbered, grown_numbered}}
use Rattle.send_encoding.specs.{Variables.steps_of, Sending.send_over}
use Rattle.send_encoding.proofs.arriving.sends_arrive.Goals as goal

pub loop-index-preserved : goal.loop-index-preserved
loop-index-preserved c =
    let k = c.loop-index.index in
    let back : k + 1 - 1 ≡ k = omega arith in
    let here : c.add-in-loop-index-2.new.self ≡ with_clauses c.loop-index.formula (send_over c.args.map.now c.loop-chunk.chunk (c.loop-number.number, get_or c.links-link-items.result.now c.loop-number.number (0, 0)) (k + 1)) = grind (arith, back, append_assoc) in
    grows_more c.loop-number.formula c.loop-index.formula c.add-in-loop-index-2.new.self (send_over c.args.map.now c.loop-chunk.chunk (c.loop-number.number, get_or c.links-link-items.result.now c.loop-number.number (0, 0))) 1 k (k + 1) (omega arith) c.loop-index.invariant here

pub loop-number-preserved : goal.loop-number-preserved
loop-number-preserved c =
    let m = c.args.map.now in
    let k = c.loop-number.number in
    let here : c.loop-index.formula ≡ with_clauses c.loop-number.formula (flat_map (send_over m c.loop-chunk.chunk (k, get_or c.links-link-items.result.now k (0, 0))) (steps_of m)) = search rules in
    grows_numbered c.loop-chunk.formula c.loop-number.formula c.loop-index.formula (λ link. flat_map (send_over m c.loop-chunk.chunk link) (steps_of m)) c.links-link-items.result.now k (0, 0) c.loop-number-test.true c.loop-number.invariant here

pub loop-chunk-preserved : goal.loop-chunk-preserved
loop-chunk-preserved c =
    let m = c.args.map.now in
    grows_more c.args.formula.now c.loop-chunk.formula c.loop-number.formula (λ c. flat_map (λ link. flat_map (send_over m c link) (steps_of m)) (enumerate_from 0 m.links)) 0 c.loop-chunk.chunk c.loop-chunk.chunk (omega arith) c.loop-chunk.invariant
    (grown_numbered c.loop-chunk.formula c.loop-number.formula (λ link. flat_map (send_over m c.loop-chunk.chunk link) (steps_of m)) c.links-link-items.result.now m.links c.loop-number.number c.links-link-items.ensures.links c.loop-number-test.false c.loop-number.invariant)
