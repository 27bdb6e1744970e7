use Rattle.std.proofs.Common.{sym, ◌∙◌, arith}
use Rattle.schedule.proofs.{Overfull.{group_read, group_tabled}, Stepping.{run_last_inside, run_last}, Verdicts.overfull_below}
use Rattle.schedule.proofs.judge.solves_by_run.Goals as goal

pub bounds-groups-group : goal.bounds-groups-group
bounds-groups-group c = grind (arith, overfull_below)

pub load_of-count-requires-clause-links : goal.load_of-count-requires-clause-links
load_of-count-requires-clause-links c = grind (arith, overfull_below, group_tabled)

pub returns-in-Some-first_overfull : goal.returns-in-Some-first_overfull
returns-in-Some-first_overfull c = grind (arith, overfull_below, group_read)

pub bounds-run-rounds : goal.bounds-run-rounds
bounds-run-rounds c =
    omega (arith, run_last_inside c.args.pre.now c.args.schedule.now c.args.run.now c.rounds.result.now c.rounds.ensures.rounds c.requires.run)

pub first_lacking-requires-clause-last : goal.first_lacking-requires-clause-last
first_lacking-requires-clause-last c =
    (run_last c.args.pre.now _ c.args.schedule.now _ _ c.rounds.ensures.rounds c.requires.run c.index-run-rounds.is).1 ∙ (sym c.requires.post_chunks ∙ sym c.chunks-chunks.ensures.chunks)

pub first_lacking-requires-clause-nodes : goal.first_lacking-requires-clause-nodes
first_lacking-requires-clause-nodes c =
    (run_last c.args.pre.now _ c.args.schedule.now _ _ c.rounds.ensures.rounds c.requires.run c.index-run-rounds.is).2 ∙ sym c.requires.post_nodes

pub returns-in-Some-first_lacking : goal.returns-in-Some-first_lacking
returns-in-Some-first_lacking c = grind (arith, run_last)

pub returns-in-None : goal.returns-in-None
returns-in-None c = grind (arith, run_last)
