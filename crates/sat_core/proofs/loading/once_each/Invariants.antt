use Rattle.std.proofs.Common.{◌≡◌, length, take}
use Rattle.sat_core.proofs.Loaded.{IsKeeping}
use Rattle.sat_core.proofs.loading.once_each.Given as goal

abbrev pub invariant-loop-lit : goal.invariant-loop-lit
invariant-loop-lit l = record {
  len : length l.seen.items ≡ length l.initial.seen.items;
  keeping : IsKeeping (take l.lit-index l.lits) l.kept.items l.seen.items l.mark;
}
