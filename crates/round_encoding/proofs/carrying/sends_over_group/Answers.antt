use Rattle.std.proofs.{Common.{◌<◌, All, length, arith, rules, sym, subst}, lemmas.List.take_all}
use Rattle.cnf_formula.proofs.Growing.{appends_more, pushes_along}
use Rattle.send_encoding.specs.Variables.{sent, link_number}
use Rattle.round_encoding.proofs.carrying.sends_over_group.Goals as goal

pub sent_over-requires-clause-number : goal.sent_over-requires-clause-number
sent_over-requires-clause-number c =
    let m = c.args.variables.now in
    let all : All (λ link. link_number m link < length m.links) c.links-link-items.result.now = subst (All (λ link. link_number m link < length m.links)) (sym c.links-link-items.ensures.links) c.requires.links in
    search rules

pub loop-link-preserved : goal.loop-link-preserved
loop-link-preserved c =
    let m = c.args.variables.now in
    pushes_along c.loop-chunk.inputs.items c.loop-link.inputs.items c.push.new.self.items (λ link. sent m c.loop-chunk.chunk (link_number m link) c.args.step) c.links-link-items.result.now c.loop-link.link-index (0, 0)
    c.loop-link-test.true c.loop-link.invariant (search rules)

pub loop-chunk-preserved : goal.loop-chunk-preserved
loop-chunk-preserved c = grind (arith, take_all, appends_more, c.links-link-items.ensures.links)
