-- The verdict on a schedule that adds up, where every step adds, and where every chunk is demanded at every node.
use Rattle.std.{proofs.{Common.{◌≡◌, ℕ, zero, suc, ◌+◌, ◌≤◌, true, length, map, None, refl, arith}, lemmas.List.Folds.find-append}, specs.List.{find, flat_map, range_with_len}}
use Rattle.list_laws.proofs.Tests.{find-map}
use Rattle.schedule.specs.{Links.TopologyValue, Sends.ScheduleValue, Placed.{PlacementValue, all_pairs, placed}, JoinedRuns.is_clash}
use Rattle.bag_runs.proofs.JoinedSteps.{adding_throughout}
use Rattle.inversion.specs.Judging.{sum_verdict_of}
use Rattle.allreduce_join.{specs.Judging.{joined_verdict_of, summed_verdict_of}, proofs.{Clashed.clash_adding, Judged.all_pass}}

-- ---- every step adds

-- none of so many steps that add has a clash
none_adding : (chunks nodes : ℕ) (s : ScheduleValue) (adding n a : ℕ) → a + n ≤ adding + 1
    → find (is_clash s adding) (flat_map (λ step. map (λ pair. (step, pair.0, pair.1)) (all_pairs chunks nodes)) (range_with_len a n)) ≡ None
none_adding chunks nodes s adding zero a le = refl
none_adding chunks nodes s adding (suc n) a le =
    grind (arith, find-append, find-map, clash_adding chunks nodes s adding a, none_adding chunks nodes s adding n (a + 1))

-- the verdict is that on a sum
pub judged_adding : (t : TopologyValue) (demand : PlacementValue) (s : ScheduleValue) (adding : ℕ) → length s.rounds ≤ adding → sum_verdict_of t demand s ≡ summed_verdict_of t demand s adding
judged_adding t demand s adding all = grind (arith, adding_throughout, none_adding)

-- ---- every chunk is demanded at every node

-- the verdict is that on a joined schedule
pub judged_everywhere : (t : TopologyValue) (chunks : ℕ) (demand : PlacementValue) (s : ScheduleValue) (adding : ℕ) → demand ≡ placed chunks t.nodes (λ pair. true) → joined_verdict_of t chunks s adding ≡ summed_verdict_of t demand s adding
judged_everywhere t chunks demand s adding is = grind (arith, all_pass)
