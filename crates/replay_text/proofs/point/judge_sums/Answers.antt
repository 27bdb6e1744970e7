use Rattle.std.proofs.{Common.{◌≡◌, ◌∙◌, true, false, ap}, lemmas.Result.IfOk-weaker}
use Rattle.schedule.specs.Placed.{PlacementValue}
use Rattle.collective_spec.specs.Collectives.{chunks_in, spec_demand}
use Rattle.replay_text.{specs.Showing.{chunks_at, is_joined, nodes_of, shown_in}, proofs.{Bodies.made_of, Ends.{joined_told, last_joined, last_summed, summed_told}, Showable.demand_chunks}}
use Rattle.replay_text.proofs.point.judge_sums.Goals as goal

pub all_summed_by_last-requires-clause-last : goal.all_summed_by_last-requires-clause-last
all_summed_by_last-requires-clause-last c =
    let x = shown_in c.args.report.now (c.args.part, c.args.point.now) in
    let nodes : c.nodes-nodes.result ≡ nodes_of x = cc in
    let count : c.candidate-count.result.c ≡ x.point.candidate.c = cc in
    let topology : c.topology-topology.result.now ≡ x.question.topology = cc in
    last_joined x c.args.last.now c.topology-topology.result.now c.chunks-chunks.result c.schedule.result.now topology
    (made_of chunks_in x c.chunks-chunks.result c.args.spec.now c.nodes-nodes.result c.candidate-count.result.c c.requires.spec nodes count c.chunks-chunks.ensures)
    c.schedule.ensures c.requires.last c.args.adding c.requires.adding

pub sums_by_last-requires-clause-last : goal.sums_by_last-requires-clause-last
sums_by_last-requires-clause-last c =
    let x = shown_in c.args.report.now (c.args.part, c.args.point.now) in
    let nodes : c.nodes-nodes.result ≡ nodes_of x = cc in
    let count : c.candidate-count.result.c ≡ x.point.candidate.c = cc in
    let topology : c.topology-topology.result.now ≡ x.question.topology = cc in
    let single : is_joined c.args.part ≡ false = cc in
    let demand = made_of spec_demand x c.in_ok-demand.demand c.args.spec.now c.nodes-nodes.result c.candidate-count.result.c c.requires.spec nodes count c.in_ok-demand.ensures in
    let chunks : c.in_ok-demand.demand.chunks ≡ chunks_at x = ap (λ (p : PlacementValue). p.chunks) demand ∙ demand_chunks x.question.spec (nodes_of x) x.point.candidate.c in
    last_summed x c.args.last.now c.topology-topology.result.now c.in_ok-demand.demand.chunks c.schedule-else-is_joined.result.now topology chunks c.schedule-else-is_joined.ensures c.requires.last c.requires.showable c.requires.adds single

pub returns-then-is_joined : goal.returns-then-is_joined
returns-then-is_joined c =
    let x = shown_in c.args.report.now (c.args.part, c.args.point.now) in
    let nodes : c.nodes-nodes.result ≡ nodes_of x = cc in
    let count : c.candidate-count.result.c ≡ x.point.candidate.c = cc in
    let topology : c.topology-topology.result.now ≡ x.question.topology = cc in
    let joins : is_joined c.args.part ≡ true = cc in
    let chunks = made_of chunks_in x c.chunks-chunks.result c.args.spec.now c.nodes-nodes.result c.candidate-count.result.c c.requires.spec nodes count c.chunks-chunks.ensures in
    let told = joined_told x c.requires.showable c.topology-topology.result.now c.schedule.result.now topology c.schedule.ensures joins c.chunks-chunks.result c.args.adding chunks c.requires.adding in
    IfOk-weaker c.all_summed_by_last.result _ _ (λ v said. said ∙ told) c.all_summed_by_last.ensures

pub returns-in_ok-demand : goal.returns-in_ok-demand
returns-in_ok-demand c =
    let x = shown_in c.args.report.now (c.args.part, c.args.point.now) in
    let nodes : c.nodes-nodes.result ≡ nodes_of x = cc in
    let count : c.candidate-count.result.c ≡ x.point.candidate.c = cc in
    let topology : c.topology-topology.result.now ≡ x.question.topology = cc in
    let single : is_joined c.args.part ≡ false = cc in
    let demand = made_of spec_demand x c.in_ok-demand.demand c.args.spec.now c.nodes-nodes.result c.candidate-count.result.c c.requires.spec nodes count c.in_ok-demand.ensures in
    c.sums_by_last.ensures ∙ summed_told x c.requires.showable c.topology-topology.result.now c.schedule-else-is_joined.result.now topology c.schedule-else-is_joined.ensures c.requires.adds single c.in_ok-demand.demand demand
