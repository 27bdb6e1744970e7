use Rattle.std.proofs.{Common.{◌≡◌, ℕ, ◌+◌, ◌*◌, ◌<◌, ◌≤◌, [], All, length, get_or, map, take, sum_by, arith, sym, ap, ◌∙◌, subst}, lemmas.List.{get_or_read, take_all, Sums.{sum_by_more, sum_by_more_le}}, Math.Nat.mul-le-mul_right}
use Rattle.schedule.specs.Links.{GroupValue}
use Rattle.round_encoding.{specs.{Frames.Frame, Rounding.{count_of_group, with_count}, inner.Counts.{with_counts, room}}, proofs.Countings.{counts_more, counts_range}}
use Rattle.send_encoding.specs.Variables.{link_number}
use Rattle.round_encoding.proofs.grouping.count_all_groups.Goals as goal

pub count_group-requires-clause-small : goal.count_group-requires-clause-small
count_group-requires-clause-small c =
    let f : Frame = record { map = c.args.variables.now; extra = c.args.extra } in
    let xs = c.groups-group-items.result.now in
    let i : ℕ = c.loop-group.group-index in
    let d : GroupValue = record { links = []; width = 0 } in
    let item : c.group-item.result ≡ get_or xs i d = get_or_read xs i c.group-item.result c.loop-group-test.true c.group-item.is d in
    let all : ℕ = sum_by (room f) c.args.topology.now.groups in
    let here : room f c.group-item.result ≡ room f (get_or xs i d) = ap (room f) item in
    let same : sum_by (room f) xs ≡ all = ap (sum_by (room f)) c.groups-group-items.ensures.groups in
    let low : c.loop-index.index + 1 ≤ c.args.variables.now.steps = omega (arith, c.loop-index-test.true, c.steps-index-end.ensures.steps) in
    let up : (c.loop-index.index + 1) * all ≤ c.args.variables.now.steps * all = mul-le-mul_right all low in
    omega (arith, up, here, same, sum_by_more_le (room f) xs i d c.loop-group-test.true, c.loop-index.invariant.1, c.loop-group.invariant.1, c.requires.small)

pub count_group-requires-clause-links : goal.count_group-requires-clause-links
count_group-requires-clause-links c =
    let m = c.args.variables.now in
    let xs = c.groups-group-items.result.now in
    let i : ℕ = c.loop-group.group-index in
    let d : GroupValue = record { links = []; width = 0 } in
    let item : c.group-item.result ≡ get_or xs i d = get_or_read xs i c.group-item.result c.loop-group-test.true c.group-item.is d in
    let each : All (λ (g : GroupValue). All (λ link. link_number m link < length m.links) g.links) xs = subst (All (λ (g : GroupValue). All (λ link. link_number m link < length m.links) g.links)) (sym c.groups-group-items.ensures.groups) c.requires.links in
    subst (λ (g : GroupValue). All (λ link. link_number m link < length m.links) g.links) (sym item) (each i d c.loop-group-test.true)

pub loop-group-preserved : goal.loop-group-preserved
loop-group-preserved c =
    let f : Frame = record { map = c.args.variables.now; extra = c.args.extra } in
    let xs = c.groups-group-items.result.now in
    let i : ℕ = c.loop-group.group-index in
    let d : GroupValue = record { links = []; width = 0 } in
    let item : c.group-item.result ≡ get_or xs i d = get_or_read xs i c.group-item.result c.loop-group-test.true c.group-item.is d in
    let here : room f c.group-item.result ≡ room f (get_or xs i d) = ap (room f) item in (
      counts_more c.loop-index.formula c.loop-group.formula c.count_group.new.formula (count_of_group f (c.loop-index.index + 1)) xs i d c.loop-group-test.true c.loop-group.invariant.0
          (c.in_ok-count_group.ensures.formula ∙ ap (λ g. with_count c.loop-group.formula (count_of_group f (c.loop-index.index + 1) g)) item),
      omega (arith, c.in_ok-count_group.ensures.few, c.loop-group.invariant.1, sum_by_more (room f) xs i d c.loop-group-test.true, here),
      omega (arith, c.in_ok-count_group.ensures.more, c.loop-group.invariant.2),
    )

pub loop-index-preserved : goal.loop-index-preserved
loop-index-preserved c =
    let f : Frame = record { map = c.args.variables.now; extra = c.args.extra } in
    let t = c.args.topology.now in
    let index : ℕ = c.loop-index.index in
    let n : ℕ = c.loop-group.group-index in
    let xs = c.groups-group-items.result.now in
    let whole : take n xs ≡ t.groups = take_all n xs (omega (arith, c.loop-group-test.false)) ∙ c.groups-group-items.ensures.groups in
    let all : sum_by (room f) (take n xs) ≡ sum_by (room f) t.groups = ap (sum_by (room f)) whole in (
      counts_range c.args.formula.now c.loop-index.formula c.loop-group.formula (λ s. map (count_of_group f s) t.groups) 1 index (index + 1) (omega arith) c.loop-index.invariant.0
          (c.loop-group.invariant.0 ∙ ap (λ gs. with_counts c.loop-index.formula (map (count_of_group f (index + 1)) gs)) whole),
      omega (arith, c.loop-group.invariant.1, c.loop-index.invariant.1, all),
      omega (arith, c.loop-group.invariant.2, c.loop-index.invariant.2),
    )
