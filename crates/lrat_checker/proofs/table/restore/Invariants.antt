use Rattle.std.proofs.Common.{◌≡◌, ℕ, ◌<◌, Bool, true, false, List, length, drop, get_or, All}
use Rattle.lrat_checker.{specs.Stored.{is_live, kept_live}, proofs.Removed.among}
use Rattle.lrat_checker.proofs.table.restore.Given as goal

abbrev pub invariant-loop-id : goal.invariant-loop-id
invariant-loop-id l = record {
  long : length l.live ≡ length l.ids;
  back : (before : List Bool) → length before ≡ length l.ids → l.initial.live ≡ kept_live l.ids before l.gone → All (λ id. is_live l.ids before id ≡ true) l.gone
      → (k : ℕ) → k < length l.ids → among (drop l.id-index l.gone) (get_or l.ids k 0) ≡ false → get_or l.live k false ≡ get_or before k false;
}
