use Rattle.std.proofs.{Common.{◌≡◌, ◌<◌, ◌∙◌, ap, map, length, arith}, lemmas.{List.length-map, Result.on_ok_weaker}}
use Rattle.node_programs.specs.Runs.{chosen, operations}
use Rattle.topology_text.specs.Value.{NamedTopologyValue}
use Rattle.replay_text.{specs.Showing.{machine_of, shown_in}, proofs.{Bodies.order_text, Machined.that_one}}
use Rattle.replay_text.proofs.order.push_order.Goals as goal

pub returns : goal.returns
returns g c =
    let x = shown_in c.args.report.now (c.args.part, c.args.point.now) in
    let lines = g.N.NodeLines.lines in
    let names = c.names-names.result.now in
    let moves = c.deref.result.now in
    let run = c.index.result.now in
    let n : names ≡ x.names = c.names-names.ensures.names ∙ ap (λ (t : NamedTopologyValue). t.names) c.topology.ensures.topology in
    let runs = c.in_ok-runs.runs.items in
    let read = c.deref.ensures.value ∙ ap (λ r. r.items) c.index.ensures in
    let some : 0 < length runs = omega (arith, ap length c.in_ok-runs.ensures.moves, length-map runs (λ r. r.items)) in
    let drawn : moves ≡ chosen (machine_of x) c.in-Some.seed = read ∙ that_one (λ r. r.items) runs (chosen (machine_of x) c.in-Some.seed) run c.in_ok-runs.ensures.moves in
    let many : length moves ≡ operations (machine_of x) = ap length read ∙ c.in_ok-runs.ensures.count 0 run some in
    rw (c.if-not-holds.false, c.in-Some.is) (on_ok_weaker c.push_last.result
    (λ done. order_text x names c.in-Some.seed moves (map (lines names) c.args.run.now) c.args.out.now.items c.push_moves.new.out.items c.push_last.new.out.items n drawn many ((λ i. map (lines (n i)) c.args.run.now) ∙ c.requires.run) c.in_ok-push_moves.ensures done)
    c.push_last.ensures)
