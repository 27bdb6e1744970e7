use Rattle.std.proofs.Common.{◌<◌, length, arith}
use Rattle.trail_core.{proofs.Levels.kept_cut}
use Rattle.trail_core.proofs.cdcl.Core.back_to.Goals as goal

pub invariant_of-self : goal.invariant_of-self
invariant_of-self c =
    let i = c.self.inside in
    let w : c.args.level < length i.trail.limits = omega (arith, c.if-level-depth.true, c.depth.ensures) in
    let e = c.back_to.ensures.back w in
    rw (c.len.ensures.count, e) (kept_cut i.store i.lists i.trail i.head i.short.items c.args.level c.self.invariant c.back_to.ensures.limits w)
