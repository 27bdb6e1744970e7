use Rattle.std.proofs.{Common.{ap, ◌∙◌, take, arith, bit_or}, lemmas.List.take_all}
use Rattle.lrat_checker.{specs.inner.Leads.signature_of, proofs.Signed.one_bit_more}
use Rattle.lrat_checker.proofs.leads.signature_of.Goals as goal

pub loop-lit-preserved : goal.loop-lit-preserved
loop-lit-preserved c =
    let k = c.loop-lit.lit-index in
    ap (λ n. bit_or n c.bit_of-signature.result) c.loop-lit.invariant ∙ ap (bit_or (signature_of (take k c.args.clause.now))) c.bit_of-signature.ensures ∙ one_bit_more c.args.clause.now k c.lit-item.result c.loop-lit-test.true c.lit-item.is

pub returns : goal.returns
returns c = c.loop-lit.invariant ∙ ap signature_of (take_all c.loop-lit.lit-index c.args.clause.now (omega (arith, c.loop-lit-test.false)))
