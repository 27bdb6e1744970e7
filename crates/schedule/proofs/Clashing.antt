-- The first clash is found exactly where there is one.
use Rattle.std.proofs.{Common.{◌≡◌, ℕ, ◌<◌, count_by, leb, ltb, true, false, length, map, None, sym, ◌∙◌, arith}, lemmas.List.Elements.recursion_from_All}
use Rattle.std.proofs.lemmas.Bool.{and_parts, and_from, false_from_ne_true, eqb-true, leb-true, ltb-true, lt-ltb, le-leb}
use Rattle.schedule.specs.{declared.hop.Hop.Hop, Sends.{ScheduleValue, IsSchedule, IsInRange, IsStep, is_hop_below}, Placed.all_pairs, Summing.goes_to, JoinedRuns.{Clashes, first_clash, is_clash}}
use Rattle.schedule.proofs.{First.{among_each, among_map, among_parts, each_among, found_none, none_found, some_passes}, Ordered.in_grid}

pub no_clash_from_none : (chunks nodes : ℕ) (s : ScheduleValue) (adding : ℕ) → IsSchedule s → IsInRange chunks nodes s → first_clash chunks nodes s adding ≡ None → Clashes s adding → ⊥
no_clash_from_none chunks nodes s adding valid in_range none clash =
    let found = some_passes (goes_to clash.step (clash.chunk, clash.node)) s.sends (omega (arith, clash.twice)) in
    let h : Hop = found.0 in
    let goes = and_parts _ _ found.2 in
    let there = and_parts _ _ goes.1 in
    let at_step : h.step ≡ clash.step = eqb-true _ _ goes.0 in
    let of_chunk : h.chunk ≡ clash.chunk = eqb-true _ _ there.0 in
    let to_node : h.to ≡ clash.node = eqb-true _ _ there.1 in
    let step_is : IsStep (length s.rounds) h.step = among_each (λ h. IsStep (length s.rounds) h.step) h s.sends (recursion_from_All (λ h. IsStep (length s.rounds) h.step) s.sends valid.steps) found.1 in
    let below = among_each (λ h. is_hop_below chunks nodes h ≡ true) h s.sends (recursion_from_All (λ h. is_hop_below chunks nodes h ≡ true) s.sends in_range) found.1 in
    let chunk_below : h.chunk < chunks = ltb-true _ _ (and_parts _ _ below).0 in
    let node_below : h.to < nodes = ltb-true _ _ (and_parts _ _ (and_parts _ _ below).1).1 in
    let pair = in_grid 0 chunks nodes (clash.chunk, clash.node) (record { from = omega arith; to = omega (arith, of_chunk, chunk_below); column = omega (arith, to_node, node_below) }) in
    let turn = among_parts (λ step. map (λ pair. (step, pair.0, pair.1)) (all_pairs chunks nodes)) (clash.step, clash.chunk, clash.node) clash.step 1 (length s.rounds) (omega (arith, at_step, step_is.from)) (omega (arith, at_step, step_is.to)) (among_map (λ pair. (clash.step, pair.0, pair.1)) (clash.chunk, clash.node) (all_pairs chunks nodes) pair) in
    let fails : is_clash s adding (clash.step, clash.chunk, clash.node) ≡ false = among_each (λ turn. is_clash s adding turn ≡ false) (clash.step, clash.chunk, clash.node) _ (found_none (is_clash s adding) _ none) turn in
    let passes : is_clash s adding (clash.step, clash.chunk, clash.node) ≡ true = and_from _ _ (lt-ltb _ _ clash.copies) (le-leb _ _ clash.twice) in
    let impossible : true ≡ false = sym passes ∙ fails in
    absurd cc

pub none_from_no_clash : (chunks nodes : ℕ) (s : ScheduleValue) (adding : ℕ) → (Clashes s adding → ⊥) → first_clash chunks nodes s adding ≡ None
none_from_no_clash chunks nodes s adding no_clash =
    none_found (is_clash s adding) _ (each_among (λ turn. is_clash s adding turn ≡ false) _ (λ turn among.
    false_from_ne_true (is_clash s adding turn) (λ passes.
    let parts = and_parts (ltb adding turn.0) (leb 2 (count_by (goes_to turn.0 (turn.1, turn.2)) s.sends)) passes in
    no_clash (record { step = turn.0; chunk = turn.1; node = turn.2; copies = ltb-true _ _ parts.0; twice = leb-true _ _ parts.1 }))))
