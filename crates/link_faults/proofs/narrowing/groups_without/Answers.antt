use Rattle.std.proofs.Common.{rules, ◌<◌, length}
use Rattle.link_faults.proofs.Sound.{left_with}
use Rattle.link_faults.proofs.narrowing.groups_without.Goals as goal

pub new-requires : goal.new-requires
new-requires c =
    let some : 0 < length c.in_ok-links.links.items = search rules in
    left_with c.args.lost.now c.group-item.result c.in_ok-links.links.items c.width.result c.width.ensures.limits c.in_ok-links.ensures c.width.ensures.width some
