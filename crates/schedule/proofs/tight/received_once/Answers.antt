use Rattle.std.proofs.{Common.{◌≡◌, true, false, get_or, rules}, lemmas.Bool.false≢true}
use Rattle.schedule.{specs.{declared.hop.Hop.Hop, Placed.{holds, with_pair}}, proofs.Wasting.{to_pair, received_more, received_twice}}
use Rattle.schedule.proofs.tight.received_once.Goals as goal

abbrev none : Hop
none = record { chunk = 0; from = 0; to = 0; step = 0 }

pub returns-then-holds : goal.returns-then-holds
returns-then-holds c =
    let sends = c.args.sends.now in
    let i = c.loop-hop.hop-index in
    let twice : holds c.loop-hop.received (to_pair (get_or sends i none)) ≡ true = search rules in
    (λ e. absurd (false≢true e), λ once. absurd (received_twice c.args.received.chunks c.args.received.nodes c.loop-hop.received sends i none c.loop-hop-test.true (c.requires.range i none c.loop-hop-test.true) c.loop-hop.invariant twice once))

pub loop-hop-preserved : goal.loop-hop-preserved
loop-hop-preserved c =
    let sends = c.args.sends.now in
    let i = c.loop-hop.hop-index in
    let fresh : holds c.loop-hop.received (to_pair (get_or sends i none)) ≡ false = search rules in
    let is : c.insert.new.self ≡ with_pair c.loop-hop.received (to_pair (get_or sends i none)) = search rules in
    received_more c.args.received.chunks c.args.received.nodes c.loop-hop.received c.insert.new.self sends i none c.loop-hop-test.true (c.requires.range i none c.loop-hop-test.true) c.loop-hop.invariant fresh is
