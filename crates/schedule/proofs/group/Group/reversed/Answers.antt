use Rattle.schedule.proofs.Turned.{turned_group}
use Rattle.schedule.proofs.group.Group.reversed.Goals as goal

pub invariant_of-result : goal.invariant_of-result
invariant_of-result c = rw (c.in_ok-links.ensures, c.deref.ensures.value) (turned_group _ c.self.invariant)
