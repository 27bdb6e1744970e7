use Rattle.schedule.{specs.Tables.marked_at, proofs.Usable.row_more}
use Rattle.schedule.proofs.links.LinkTable.push_from.Goals as goal

pub loop-to-preserved : goal.loop-to-preserved
loop-to-preserved c =
    row_more (marked_at c.args.self.now.cells) c.args.links.now.items c.loop-to.links.items c.push_link.new.links.items c.args.from c.loop-to.to c.loop-to.invariant c.in_ok-push_link.ensures
