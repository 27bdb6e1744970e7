use Rattle.std.proofs.Common.{refl}
use Rattle.schedule.proofs.Marked.{placement_marked, marked_set}
use Rattle.schedule.proofs.placement.Placement.insert.Goals as goal

pub returns-clause-inserted : goal.returns-clause-inserted
returns-clause-inserted c =
    let p = c.self.inside in
    rw (← c.self.view_is) (marked_set p.chunks p.nodes p.cells.items c.args.chunk c.args.node c.self.invariant (rw (← c.self.view_is) at c.requires.chunk) (rw (← c.self.view_is) at c.requires.node))

pub returns-clause-limits : goal.returns-clause-limits
returns-clause-limits c = placement_marked _ c.self.inside.chunks c.self.inside.nodes _ refl
