use Rattle.std.proofs.Common.{◌≡◌, take, filter, not}
use Rattle.link_faults.specs.Carrying.{is_carried}
use Rattle.degraded_search.proofs.found.parted.Given as goal

abbrev pub invariant-loop-x : goal.invariant-loop-x
invariant-loop-x l = record {
  carried : l.carried.items ≡ filter (is_carried l.old) (take l.x-index l.refuted);
  others : l.others.items ≡ filter (λ x. not (is_carried l.old x)) (take l.x-index l.refuted);
}
