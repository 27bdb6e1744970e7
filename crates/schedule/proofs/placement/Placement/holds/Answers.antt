use Rattle.schedule.proofs.Marked.{placement_marked, holds_marked}
use Rattle.schedule.proofs.placement.Placement.holds.Goals as goal

pub returns-clause-held : goal.returns-clause-held
returns-clause-held c =
    let p = c.self.inside in
    rw (← c.self.view_is) (holds_marked p.chunks p.nodes p.cells.items c.args.chunk c.args.node _ c.self.invariant (rw (← c.self.view_is) at c.requires.chunk) (rw (← c.self.view_is) at c.requires.node) c.index.ensures)

pub returns-clause-limits : goal.returns-clause-limits
returns-clause-limits c = placement_marked _ c.self.inside.chunks c.self.inside.nodes c.self.inside.cells.items c.self.view_is
