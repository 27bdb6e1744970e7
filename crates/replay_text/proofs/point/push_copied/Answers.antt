use Rattle.std.proofs.{Common.{◌≡◌, ◌∙◌, ap, map, refl}, lemmas.Result.on_ok_weaker}
use Rattle.collective_spec.specs.{declared.instance.Instance.Instance, Collectives.spec_instance}
use Rattle.topology_text.specs.Value.{NamedTopologyValue}
use Rattle.replay_text.{specs.{Replay.{held_lines, verdict_words}, Showing.{nodes_of, shown_in}}, proofs.Bodies.{body_text, steps_copied, judged_copied, made_of}}
use Rattle.replay_text.proofs.point.push_copied.Goals as goal

pub push_order-requires-clause-run : goal.push_order-requires-clause-run
push_order-requires-clause-run c =
    let x = shown_in c.args.report.now (c.args.part, c.args.point.now) in
    let i = c.in_ok-pre.field-0 in
    let nodes : c.nodes.result ≡ nodes_of x = cc in
    let count : c.candidate.result.c ≡ x.point.candidate.c = cc in
    let own = made_of spec_instance x i c.args.spec.now c.nodes.result c.candidate.result.c c.requires.spec nodes count c.in_ok-pre.ensures in
    steps_copied x c.requires.copied x.names i.pre c.schedule-schedule.result.now refl (ap (λ (j : Instance). j.pre) own) c.schedule-schedule.ensures c.deref-3.result.now (c.deref-3.ensures.value ∙ c.in_ok-run.ensures)

pub returns : goal.returns
returns c =
    let x = shown_in c.args.report.now (c.args.part, c.args.point.now) in
    let i = c.in_ok-pre.field-0 in
    let nodes : c.nodes.result ≡ nodes_of x = cc in
    let count : c.candidate.result.c ≡ x.point.candidate.c = cc in
    let own = made_of spec_instance x i c.args.spec.now c.nodes.result c.candidate.result.c c.requires.spec nodes count c.in_ok-pre.ensures in
    let pre = ap (λ (j : Instance). j.pre) own in
    let names = c.names-names.result.now in
    let s = c.schedule-schedule.result.now in
    let v = c.solves_by_run-verdict.result in
    let n : names ≡ x.names = c.names-names.ensures.names ∙ ap (λ (t : NamedTopologyValue). t.names) c.topology-named.ensures.topology in
    let topology = c.topology-topology.ensures.topology ∙ ap (λ (t : NamedTopologyValue). t.topology) c.topology-named.ensures.topology in
    let judged = judged_copied x c.requires.copied names i.pre s n pre c.schedule-schedule.ensures c.topology-topology.result.now i.post v topology (ap (λ (j : Instance). j.post) own) c.solves_by_run-verdict.ensures in
    let steps = steps_copied x c.requires.copied names i.pre s n pre c.schedule-schedule.ensures c.deref-2.result.now (c.deref-2.ensures.value ∙ c.in_ok-run.ensures) in
    on_ok_weaker c.push_order.result
    (λ done. body_text x c.args.order c.says_solves-holds.result (map (held_lines names) c.deref-2.result.now) (verdict_words names v) c.args.out.now.items c.push_steps.new.out.items c.push_verdict.new.out.items c.push_order.new.out.items
    steps judged.0 (c.says_solves-holds.ensures ∙ judged.1) c.in_ok-push_steps.ensures c.in_ok-push_verdict.ensures done)
    c.push_order.ensures
