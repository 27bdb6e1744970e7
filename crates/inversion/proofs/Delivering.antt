-- The inverse of a schedule that adds each chunk up somewhere brings it from there everywhere.
use Rattle.std.proofs.{Common.{◌≡◌, ℕ, ◌<◌, true, List, length, get_or, sym, ap, ◌∙◌, subst, arith}, lemmas.List.{FromFn.get_or-map-range_with_len, Elements.{All-from_recursion, recursion_from_All}}}
use Rattle.schedule.specs.{Links.{TopologyValue, reversed_of}, Sends.{ScheduleValue, IsSchedule, IsInRange}, Placed.{PlacementValue, all_pairs, holds}, Running.after, Fitting.Fits, Solving.{Solves, Solvable}}
use Rattle.schedule.specs.{Bags.{contributions, one_of_each}, Inverse.inverse_of, Rows.everywhere, Summing.{SummedSolvable, Sums, bags_after}}
use Rattle.schedule.proofs.{First.{among_each, each_filter, each_weaker}, Inverting.{inverse_in_range, inverse_inverse, same_rounds, valid_inverse}, Ordered.{IsCell, among_from_any, grid_cells}, Returning.{own, returned}}
use Rattle.schedule.proofs.Turning.{fits_both_ways}
use Rattle.inversion.{specs.Reductions.HeldBySome, proofs.Reaching.reached_back}

-- where a bag has one of each node, it counts each node
counted_once : (nodes m : ℕ) (bag : List ℕ) → m < nodes → bag ≡ one_of_each nodes → get_or bag m 0 ≡ 1
counted_once nodes m bag below is = ap (λ b. get_or b m 0) is ∙ get_or-map-range_with_len (λ _. 1) 0 nodes m m 0 below (omega arith)

pub inverse_solves : (t : TopologyValue) (demand : PlacementValue) (s : ScheduleValue) (steps rounds : ℕ) → demand.nodes ≡ t.nodes → HeldBySome demand → IsSchedule s → IsInRange demand.chunks demand.nodes s → Sums t demand s steps rounds → Solves (reversed_of t) demand (everywhere demand.chunks demand.nodes) (inverse_of s) steps rounds
inverse_solves t demand s steps rounds nodes_are some valid in_range sums = record {
  steps_are = (same_rounds s).0 ∙ sums.steps_are;
  rounds_are = (same_rounds s).1 ∙ sums.rounds_are;
  fits = fits;
  delivers = All-from_recursion Reached (everywhere demand.chunks demand.nodes).pairs (each_filter Reached (λ pair. true) (all_pairs demand.chunks demand.nodes) (each_weaker (IsCell 0 demand.chunks demand.nodes) Reached reached (all_pairs demand.chunks demand.nodes) (grid_cells 0 demand.chunks demand.nodes)));
}
  where
    back : ScheduleValue
    back = inverse_of s

    fits : Fits (reversed_of t) (inverse_of s)
    fits = (fits_both_ways t (inverse_of s) (valid_inverse s valid)).1 (subst (λ z. Fits t z) (sym (inverse_inverse s valid)) sums.fits)

    Reached : ℕ × ℕ → Type 0
    Reached pair = holds (after demand (inverse_of s) (length (inverse_of s).rounds)) pair ≡ true

    ends : (pair : ℕ × ℕ) → holds demand pair ≡ true → bags_after (contributions t.nodes) s.sends (length s.rounds) pair ≡ one_of_each t.nodes
    ends pair held =
        among_each (λ pair. bags_after (contributions t.nodes) s.sends (length s.rounds) pair ≡ one_of_each t.nodes) pair demand.pairs (recursion_from_All (λ pair. bags_after (contributions t.nodes) s.sends (length s.rounds) pair ≡ one_of_each t.nodes) demand.pairs sums.sums) (among_from_any pair demand.pairs held)

    -- the bag of the inverse's inverse is that of the schedule
    whole : (chunk node : ℕ) → holds demand (chunk, node) ≡ true → returned demand.nodes (inverse_of s) (length (inverse_of s).rounds) (chunk, node) ≡ one_of_each demand.nodes
    whole chunk node held =
        let same : returned demand.nodes (inverse_of s) (length (inverse_of s).rounds) (chunk, node) ≡ bags_after (contributions demand.nodes) s.sends (length (inverse_of s).rounds) (chunk, node) =
        ap (λ (z : ScheduleValue). bags_after (contributions demand.nodes) z.sends (length (inverse_of s).rounds) (chunk, node)) (inverse_inverse s valid) in
        let long : bags_after (contributions demand.nodes) s.sends (length (inverse_of s).rounds) (chunk, node) ≡ bags_after (contributions demand.nodes) s.sends (length s.rounds) (chunk, node) =
        ap (λ n. bags_after (contributions demand.nodes) s.sends n (chunk, node)) (same_rounds s).0 in
        same ∙ (long ∙ subst (λ n. bags_after (contributions n) s.sends (length s.rounds) (chunk, node) ≡ one_of_each n) (sym nodes_are) (ends (chunk, node) held))

    reached : (pair : ℕ × ℕ) → IsCell 0 demand.chunks demand.nodes pair → Reached pair
    reached pair cell =
        let chunk_below : pair.0 < demand.chunks = omega (arith, cell.to) in
        let root = some pair.0 chunk_below in
        let one : own (returned demand.nodes (inverse_of s) (length (inverse_of s).rounds)) pair.0 pair.1 root.0 ≡ 1 = counted_once demand.nodes pair.1 _ cell.column (whole pair.0 root.0 root.2) in
        reached_back demand (inverse_of s) pair.0 pair.1 (valid_inverse s valid) (inverse_in_range demand.chunks demand.nodes s in_range) chunk_below cell.column (length (inverse_of s).rounds) 0 root.0 (omega arith) root.1 root.2 (omega (arith, one))

-- where a sum can be had, the chunks can be brought back over the links turned round
pub solvable_back : (t : TopologyValue) (demand : PlacementValue) (steps rounds : ℕ) → demand.nodes ≡ t.nodes → HeldBySome demand → SummedSolvable t demand steps rounds → Solvable (reversed_of t) demand (everywhere demand.chunks demand.nodes) steps rounds
solvable_back t demand steps rounds nodes_are some summed = record {
  schedule = inverse_of summed.schedule;
  valid = valid_inverse summed.schedule summed.valid;
  in_range = inverse_in_range demand.chunks demand.nodes summed.schedule summed.in_range;
  solves = inverse_solves t demand summed.schedule steps rounds nodes_are some summed.valid summed.in_range summed.sums;
}
