use Rattle.std.{proofs.Common.take, specs.List.list_any}
use Rattle.schedule.specs.{Links.has_link, Tables.Marks}
use Rattle.schedule.proofs.links.LinkTable.usable.Given as goal

abbrev pub invariant-loop-group : goal.invariant-loop-group
invariant-loop-group l = Marks l.table.cells (λ link. list_any (λ group. has_link group link) (take l.group-index l.topology.groups))
