use Rattle.std.proofs.{Common.{◌≡◌, ◌∙◌, ap, map, refl, sym, arith}, lemmas.Result.on_ok_weaker}
use Rattle.topology_text.specs.Value.{NamedTopologyValue}
use Rattle.replay_text.{specs.{Showing.{shown_in, sum_words}, inner.Appended.store_lines}, proofs.{Bodies.{adding_is, body_text, steps_added, judged_added}, Ends.{added_inside, added_last, added_run}}}
use Rattle.replay_text.proofs.point.push_added.Goals as goal

pub index-last-requires : goal.index-last-requires
index-last-requires c =
    let x = shown_in c.args.report.now (c.args.part, c.args.point.now) in
    let run = c.in_ok-run.run' in
    omega (
      arith,
      run.ok.0,
      added_inside x c.requires.adds c.in_ok-start.start c.steps_that_add-adding.result c.schedule-schedule.result.now run.items c.rounds.result.now c.in_ok-start.ensures (c.steps_that_add-adding.ensures ∙ sym (adding_is x c.requires.adds)) c.schedule-schedule.ensures c.in_ok-run.ensures
          c.rounds.ensures.rounds,
    )

pub judge_sums-requires-clause-last : goal.judge_sums-requires-clause-last
judge_sums-requires-clause-last c =
    let x = shown_in c.args.report.now (c.args.part, c.args.point.now) in
    added_last x c.requires.adds c.in_ok-start.start c.steps_that_add-adding.result c.schedule-schedule.result.now c.in_ok-run.run'.items c.rounds.result.now c.in_ok-start.ensures (c.steps_that_add-adding.ensures ∙ sym (adding_is x c.requires.adds)) c.schedule-schedule.ensures c.in_ok-run.ensures
    c.rounds.ensures.rounds c.index-last.result.now c.index-last.ensures

pub push_order-requires-clause-run : goal.push_order-requires-clause-run
push_order-requires-clause-run c =
    let x = shown_in c.args.report.now (c.args.part, c.args.point.now) in
    let ran = added_run x c.requires.adds c.in_ok-start.start c.steps_that_add-adding.result c.schedule-schedule.result.now c.in_ok-run.run'.items c.rounds.result.now c.in_ok-start.ensures (c.steps_that_add-adding.ensures ∙ sym (adding_is x c.requires.adds)) c.schedule-schedule.ensures c.in_ok-run.ensures c.rounds.ensures.rounds in
    steps_added x c.requires.adds x.names refl c.deref-2.result.now (c.deref-2.ensures.value ∙ ran)

pub returns : goal.returns
returns c =
    let x = shown_in c.args.report.now (c.args.part, c.args.point.now) in
    let names = c.names-names.result.now in
    let v = c.in_ok-verdict.verdict in
    let n : names ≡ x.names = c.names-names.ensures.names ∙ ap (λ (t : NamedTopologyValue). t.names) c.topology.ensures.topology in
    let ran = added_run x c.requires.adds c.in_ok-start.start c.steps_that_add-adding.result c.schedule-schedule.result.now c.in_ok-run.run'.items c.rounds.result.now c.in_ok-start.ensures (c.steps_that_add-adding.ensures ∙ sym (adding_is x c.requires.adds)) c.schedule-schedule.ensures c.in_ok-run.ensures c.rounds.ensures.rounds in
    let judged = judged_added x c.requires.adds names n v c.in_ok-verdict.ensures in
    on_ok_weaker c.push_order.result
    (λ done. body_text x c.args.order c.says_sums-holds.result (map (store_lines names) c.deref.result.now) (sum_words names v) c.args.out.now.items c.push_steps.new.out.items c.push_sum_verdict.new.out.items c.push_order.new.out.items
    (steps_added x c.requires.adds names n c.deref.result.now (c.deref.ensures.value ∙ ran)) judged.0 (c.says_sums-holds.ensures ∙ judged.1) c.in_ok-push_steps.ensures c.in_ok-push_sum_verdict.ensures done)
    c.push_order.ensures
