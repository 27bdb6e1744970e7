use Rattle.std.proofs.{Common.{ap, ◌∙◌, length, take}, lemmas.List.{length-set}}
use Rattle.sat_core.proofs.Loaded.{keeping_new, next_taken}
use Rattle.sat_core.proofs.loading.are_apart.Goals as goal

pub loop-lit-preserved : goal.loop-lit-preserved
loop-lit-preserved c =
    let lits = c.args.lits.now in
    let k = c.loop-lit.lit-index in
    let e = c.marks_at.ensures in
    let i = c.loop-lit.invariant in
    let at = c.lit-item.is in
    let w = c.loop-lit-test.true in
    record {
      len = ap length e.marked ∙ length-set c.loop-lit.seen.items _ c.args.mark ∙ i.len;
      keeping = keeping_new lits (take k lits) _ c.loop-lit.seen.items _ c.args.mark k c.lit-item.result i.keeping w at e.marked (e.other c.if-not-marks_at.false) e.lit.1 e.lit.0 (next_taken lits k c.lit-item.result w at);
    }
