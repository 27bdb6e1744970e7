use Rattle.replay_text.{specs.Showing.shown_in, proofs.{Bodies.whole_text, Showable.{listed_shows, numbered}}}
use Rattle.replay_text.proofs.point.replay_point.Goals as goal

pub push_body-requires-clause-listed : goal.push_body-requires-clause-listed
push_body-requires-clause-listed c = numbered c.args.report.now c.args.number (c.args.part, c.args.point.now) c.requires

pub push_body-requires-clause-showable : goal.push_body-requires-clause-showable
push_body-requires-clause-showable c = listed_shows c.args.report.now c.words.ensures.limits (c.args.part, c.args.point.now) (push_body-requires-clause-listed c)

pub returns : goal.returns
returns c =
    whole_text c.args.number c.from.result (shown_in c.args.report.now (c.args.part, c.args.point.now)) c.args.order c.new-out.result.items c.push_numbered.new.out.items c.push_body.new.out.items c.push_word.new.out.items
    c.new-out.ensures.items c.from.ensures c.in_ok-push_numbered.ensures c.in_ok-push_body.ensures c.in_ok-push_word.ensures.appended
