use Rattle.std.proofs.Common.{◌≡◌, length, take}
use Rattle.sat_core.proofs.Loaded.{IsKeeping}
use Rattle.sat_core.proofs.loading.are_apart.Given as goal

abbrev pub invariant-loop-lit : goal.invariant-loop-lit
invariant-loop-lit l = record {
  len : length l.seen.items ≡ length l.initial.seen.items;
  keeping : IsKeeping (take l.lit-index l.lits) (take l.lit-index l.lits) l.seen.items l.mark;
}
