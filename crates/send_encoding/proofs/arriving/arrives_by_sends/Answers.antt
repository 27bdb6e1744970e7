use Rattle.std.proofs.Common.{◌≡◌, ◌+◌, ◌-◌, ◌<◌, ◌≤◌, ◌∷◌, sym, subst, arith, rules}
use Rattle.schedule.specs.Sends.{IsStep}
use Rattle.cnf_formula.specs.{Literals.negation, Formulas.IsClause}
use Rattle.send_encoding.{specs.{Variables.{arrival, arrivals, sends}, Sending.sends_into, inner.Parts.node_arrives}, proofs.{Picking.pairs_of_loops, Within.arrives_about}}
use Rattle.send_encoding.proofs.arriving.arrives_by_sends.Goals as goal

pub add-requires : goal.add-requires
add-requires c =
    let m = c.args.map.now in
    let chunk = c.loop-chunk.chunk in
    let node = c.loop-node.node in
    let k = c.loop-index.index in
    let v = c.loop-index.formula.vars in
    let back : k + 1 - 1 ≡ k = omega arith in
    let is : c.deref.result.now ≡ arrival m chunk node (k + 1 - 1) ∷ negation (arrival m chunk node (k + 1)) ∷ sends_into m chunk node (k + 1) = search rules in
    let vars : arrivals m + sends m ≤ v = grind arith in
    let low : chunk < m.chunks = omega (arith, c.loop-chunk-test.true, c.chunks-chunk-end.ensures.chunks) in
    let few : node < m.nodes = omega (arith, c.loop-node-test.true, c.nodes-node-end.ensures.nodes) in
    let step : IsStep m.steps (k + 1) = record { from = omega arith; to = omega (arith, c.loop-index-test.true, c.steps-index-end.ensures.steps) } in
    subst (IsClause v) (sym is) (arrives_about v m chunk node (k + 1) c.arrival-before.ensures.limits vars low few step)

pub returns : goal.returns
returns c = pairs_of_loops c.args.formula.now c.loop-chunk.formula (node_arrives c.args.map.now) c.args.map.now.chunks c.args.map.now.nodes c.loop-chunk.chunk (omega (arith, c.chunks-chunk-end.ensures.chunks)) c.loop-chunk.invariant
