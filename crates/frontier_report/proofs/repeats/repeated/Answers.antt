use Rattle.std.proofs.Common.{length, ◌∙◌, arith}
use Rattle.frontier_report.proofs.Turns.{turn_taken, turn_counted}
use Rattle.frontier_report.proofs.repeats.repeated.Goals as goal

pub loop-lines-preserved : goal.loop-lines-preserved
loop-lines-preserved g c =
    let before = c.loop-lines.items.items in
    let now = c.push.new.self.items in
    let p = c.loop-lines.lines.place in
    let q = c.read.new.lines.place in
    let most = length c.args.lines.now.place.rows in
    record {
      read = turn_taken c.args.word.now (g.R.Repeats.part_at c.args.reader.now) most before now p q c.in_ok-item.item c.loop-lines-test.ensures (rw c.deref.ensures.value at c.in_ok-item.ensures.read) c.in_ok-push.ensures.items c.loop-lines.invariant.fewer ∙ c.loop-lines.invariant.read;
      text = c.in_ok-item.ensures.text ∙ c.loop-lines.invariant.text;
      number = omega (arith, c.in_ok-item.ensures.onward, c.loop-lines.invariant.number);
      fewer = turn_counted before now c.in_ok-item.item (length p.rows) (length q.rows) most c.in_ok-push.ensures.items c.in_ok-item.ensures.fewer c.loop-lines.invariant.fewer;
    }
