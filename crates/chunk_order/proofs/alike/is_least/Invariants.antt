use Rattle.std.proofs.Common.{◌≡◌, ◌<◌, ℕ, false}
use Rattle.chunk_order.specs.Alike.{is_alike}
use Rattle.chunk_order.proofs.alike.is_least.Given as goal

abbrev pub invariant-loop-other : goal.invariant-loop-other
invariant-loop-other l = (k : ℕ) → k < l.other → is_alike l.instance.pre l.instance.post l.chunk k ≡ false
