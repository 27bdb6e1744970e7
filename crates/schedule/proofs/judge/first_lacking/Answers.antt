use Rattle.std.proofs.Common.{◌∙◌, sym, arith}
use Rattle.schedule.{specs.Placed.lacks, proofs.{Grids.{find_here, find_later}, Lacking.all_lacking}}
use Rattle.schedule.proofs.judge.first_lacking.Goals as goal

pub loop-chunk-init : goal.loop-chunk-init
loop-chunk-init c = all_lacking c.args.last.now c.args.post.now _ _ c.requires.post c.nodes-nodes.ensures.nodes c.nodes-nodes.ensures.limits

pub returns-in-Some : goal.returns-in-Some
returns-in-Some c =
    sym (find_here (lacks c.args.post.now c.args.last.now) c.loop-chunk.chunk c.args.chunks c.nodes-nodes.result _ (omega arith) c.in-Some.ensures) ∙ c.loop-chunk.invariant

pub loop-chunk-preserved : goal.loop-chunk-preserved
loop-chunk-preserved c =
    sym (find_later (lacks c.args.post.now c.args.last.now) c.loop-chunk.chunk c.args.chunks c.nodes-nodes.result (omega arith) c.in_default.ensures) ∙ c.loop-chunk.invariant
