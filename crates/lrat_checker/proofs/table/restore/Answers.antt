use Rattle.std.proofs.{Common.{arith, length, ap, ◌∙◌}, lemmas.List.{drop_more, drop_all, length-set}}
use Rattle.lrat_checker.proofs.{Removed.{back_first, back_one, back_all}, table.restore.Goals.{in-Some, in_default}}
use Rattle.lrat_checker.proofs.table.restore.Goals as goal

pub loop-id-init : goal.loop-id-init
loop-id-init c = record { long = c.requires.lives; back = λ before n e a. back_first c.args.ids.now c.args.live.now before c.args.gone.now n e }

pub loop-id-preserved : goal.loop-id-preserved
loop-id-preserved c =
    let ids = c.args.ids.now in
    let gone = c.args.gone.now in
    let j = c.loop-id.id-index in
    let i = c.loop-id.invariant in
    let here = drop_more gone j 0 c.loop-id-test.true in
    elim c.match-place_of.branch [
      | in-Some w ↦ record {
        long = ap length w.live-is ∙ length-set c.loop-id.live w.in-Some.place _ ∙ i.long;
        back = grind (arith, back_one ids c.loop-id.live);
      }
      | in_default w ↦ record {
        long = ap length w.live-is ∙ i.long;
        back = grind arith;
      }
    ]

pub returns : goal.returns
returns c = grind (arith, back_all, drop_all c.loop-id.id-index c.args.gone.now c.loop-id-test.false)
