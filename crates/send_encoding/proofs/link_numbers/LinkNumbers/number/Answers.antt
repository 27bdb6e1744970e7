use Rattle.std.{proofs.Common.{◌≡◌, ap, ◌∙◌}, specs.List.position_or_len}
use Rattle.schedule.specs.Placed.{same_pair}
use Rattle.send_encoding.proofs.Places.{numbered}
use Rattle.send_encoding.proofs.link_numbers.LinkNumbers.number.Goals as goal

pub returns-then-to-lt-NODES : goal.returns-then-to-lt-NODES
returns-then-to-lt-NODES c =
    let is : c.self.inside.links.items ≡ c.args.self.now = c.self.view_is in
    c.index.ensures ∙ numbered c.self.inside.links.items c.args.link.0 c.args.link.1 c.self.inside.numbers.items c.index.result.now c.if-from-lt-NODES.true c.if-to-lt-NODES.true c.self.invariant ∙ ap (position_or_len (same_pair c.args.link)) is
