use Rattle.topology_text.proofs.Sides.{no_side, three_sides, two_sides}
use Rattle.std.proofs.Common.{◌<◌, length, arith}
use Rattle.topology_text.proofs.link_word.sides_of.Goals as goal

pub returns-then-at-word : goal.returns-then-at-word
returns-then-at-word c = no_side c.args.word.now c.end_of-at.result c.if-at-word.true c.end_of-at.ensures.apart

pub returns-then-end-word : goal.returns-then-end-word
returns-then-end-word c =
    let before : c.end_of-at.result < length c.args.word.now = omega arith in
    three_sides c.args.word.now c.end_of-at.result c.end_of-end.result before c.end_of-at.ensures.apart (c.end_of-at.ensures.stops before)
    c.end_of-end.ensures.after c.if-end-word.true c.end_of-end.ensures.apart (c.end_of-end.ensures.stops c.if-end-word.true)

pub returns : goal.returns
returns c = grind (arith, two_sides)
