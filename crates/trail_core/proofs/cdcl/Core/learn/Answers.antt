use Rattle.std.proofs.Common.{sym, subst}
use Rattle.trail_core.{specs.{Kept.{IsHeld, CanAdd}}, proofs.Added.kept_learned}
use Rattle.trail_core.proofs.cdcl.Core.learn.Goals as goal

pub hold-requires-clause-place : goal.hold-requires-clause-place
hold-requires-clause-place c = subst (λ x. CanAdd x c.args.lits.now) (sym c.self.view_is) c.requires.place

pub invariant_of-self-2 : goal.invariant_of-self-2
invariant_of-self-2 c =
    let i = c.self.inside in
    let held : IsHeld i.store c.args.lits.now c.hold.new.store = c.in_ok-number.ensures.ok.1 in
    rw (c.push.ensures, c.in_ok-number.ensures.ok.0, held.is) (kept_learned i.store held.row i.lists c.hold.new.lists i.trail i.head c.hold.new.head i.short.items c.hold.new.short.items c.args.lit c.self.invariant (rw held.is at c.hold.ensures.kept)
    (rw (sym c.self.view_is, sym held.lits) at c.requires.alone) (rw (sym c.self.view_is, sym held.lits) at c.requires.due))
