use Rattle.std.proofs.Common.{◌≡◌, map, take, All, MatchOption, filter}
use Rattle.node_cuts.{specs.{inner.Listed.members, Floors.{fraction_of, has_need}, Tables.{IsLow, IsSmall, measure_of}}, proofs.Best.IsBest}
use Rattle.node_cuts.proofs.table.CutTable.new.Given as goal

abbrev pub invariant-loop-set : goal.invariant-loop-set
invariant-loop-set l = record {
  made : l.measures.items ≡ map (λ m. measure_of l.sets l.topology l.instance.pre l.instance.post (members m)) (take l.set-index l.set-items);
  small : All IsSmall l.measures.items;
  best : IsBest (filter has_need (map (λ m. fraction_of l.sets l.topology l.spec (members m)) (take l.set-index l.set-items))) l.best;
  low : MatchOption l.best Unit IsLow;
}
