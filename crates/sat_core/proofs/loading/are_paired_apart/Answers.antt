use Rattle.std.proofs.{Common.{arith, ⊎_elim}, lemmas.Bool.{cases_lt}}
use Rattle.sat_core.proofs.Apart.{differs_from}
use Rattle.sat_core.proofs.loading.are_paired_apart.Goals as goal

pub loop-place-preserved : goal.loop-place-preserved
loop-place-preserved c = λ i j d lt w. ⊎_elim
    (λ h. c.loop-place.invariant i j d lt h)
    (λ h. differs_from c.args.lits.now c.loop-place.place i j c.index-lits-place.result d (c.is_among.ensures c.if-is_among.false) c.index-lits-place.is lt (omega (arith, h, w)) (omega (arith, c.loop-place-test.true, c.loop-place.auto.place-end)))
    (cases_lt j c.loop-place.place)
