use Rattle.std.proofs.{Common.{◌≡◌, map, refl, subst, IfOk}, lemmas.Result.IfOk-weaker}
use Rattle.node_programs.specs.{Machines.started, Runs.chosen}
use Rattle.replay_text.{specs.Showing.shown_in, proofs.{Machined.{below_start, each_done, machine_is}, Showable.listed_shows}}
use Rattle.replay_text.proofs.running.run_point.Goals as goal

pub start_store-requires-clause-showable : goal.start_store-requires-clause-showable
start_store-requires-clause-showable c = listed_shows c.args.report.now c.words.ensures.limits (c.args.part, c.args.point.now) c.requires

pub run_orders-requires-clause-in_range : goal.run_orders-requires-clause-in_range
run_orders-requires-clause-in_range c =
    let x = shown_in c.args.report.now (c.args.part, c.args.point.now) in
    below_start x c.in_ok-start.start c.in_ok-programs.programs (listed_shows c.args.report.now c.words.ensures.limits (c.args.part, c.args.point.now) c.requires) c.in_ok-start.ensures c.in_ok-programs.ensures.in_range

pub returns-clause-moves : goal.returns-clause-moves
returns-clause-moves c =
    let x = shown_in c.args.report.now (c.args.part, c.args.point.now) in
    let machine = machine_is x c.in_ok-start.start c.in_ok-programs.programs (started c.in_ok-programs.programs c.in_ok-start.start) c.in_ok-start.ensures c.in_ok-programs.ensures.programs refl in
    subst (λ m. IfOk c.run_orders.result (λ runs. map (λ moves. moves.items) runs.items ≡ map (chosen m) c.args.seeds.now)) machine c.run_orders.ensures

pub returns-clause-count : goal.returns-clause-count
returns-clause-count c =
    let x = shown_in c.args.report.now (c.args.part, c.args.point.now) in
    let shows = listed_shows c.args.report.now c.words.ensures.limits (c.args.part, c.args.point.now) c.requires in
    IfOk-weaker c.run_orders.result _ _ (λ runs drawn. each_done (λ moves. moves.items) x runs.items c.args.seeds.now shows drawn) (returns-clause-moves c)
