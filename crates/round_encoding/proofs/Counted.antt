-- A candidate's formula is about its own variables and those of its counters.
use Rattle.std.proofs.{Common.{◌≡◌, ℕ, ◌+◌, ◌*◌, ◌<◌, ◌≤◌, Bool, true, false, List, [], ◌∷◌, ◌++◌, length, map, get_or, refl, ◌∙◌, arith, if◌then◌else◌, flat_map, nat_lt, All}, lemmas.Bool.ltb-true}
use Rattle.std.proofs.{lemmas.{List.{Elements.{All-nil, All-cons, All-head, All-tail, All-append}, Folds.list_any_at, FromFn.length-map-range_with_len}, Bool.Decides.nat_tests}, Math.Nat.mul-le-mul_left}
use Rattle.std.specs.List.{list_any, range_with_len}
use Rattle.schedule.{specs.{Links.{GroupValue, TopologyValue, IsTopology, IsBelow, is_usable, usable_links}, Placed.{PlacementValue, same_pair}}, proofs.Placing.{holds-placed, pair_itself}}
use Rattle.cnf_formula.{specs.{Literals.{LitValue, negation}, Formulas.{IsAbout, IsClause, IsFormula}}, proofs.Clauses.negation_about}
use Rattle.cardinality.{specs.{Counting.output, Totalizers.totalizer_of}, proofs.{Totals.totalizer_is_counter, Wider.{clauses_more, clause_more, about_more}}}
use Rattle.send_encoding.specs.{Variables.{SendMapValue, map_of, steps_of, sent, link_number}, Sending.sending}
use Rattle.send_encoding.proofs.{Everywhere.{in_map, in_flat, From, in_range, some_in_flat, place_below}, Mapped.links_join, About.{one, two, only_clause, IsStepOf}}
use Rattle.round_encoding.specs.{Frames.{Frame, frame_of, extra_round, own_variables}, Rounding.{Count, count_of_rounds, count_of_group, counts_in, counters_after, formula_of, extra_in_order}}
use Rattle.round_encoding.proofs.Extras.{sent_about, extra_about, sending_about, order_about}

-- ---- counts in a row

-- a count of literals about the first so many variables, that says something about its outputs and these
pub record IsCount (own : ℕ) (count : Count) : Type 0 where
  pub some : 0 < length count.inputs
  pub about : IsClause own count.inputs
  pub says : (w : ℕ) (o : ℕ → LitValue) → own ≤ w → ((t : ℕ) → 0 < t → t ≤ count.bound + 1 → IsAbout w (o t)) → All (IsClause w) (count.says o)

pub more_variables : (before : ℕ) (counts : List Count) → before ≤ (counters_after before counts).vars
more_variables before [] = omega arith
more_variables before (count ∷ counts) = grind (arith, more_variables (before + (totalizer_of before count.inputs count.bound).vars) counts)

output_about : (before : ℕ) (count : Count) → 0 < length count.inputs → All (IsAbout before) count.inputs → (t : ℕ) → 0 < t → t ≤ count.bound + 1 → IsAbout (before + (totalizer_of before count.inputs count.bound).vars) (output (totalizer_of before count.inputs count.bound) t)
output_about before count some about t low high = grind (arith, totalizer_is_counter before count.inputs count.bound some about)

pub counts_about : (own before : ℕ) (counts : List Count) → own ≤ before → All (IsCount own) counts → All (IsClause (counters_after before counts).vars) (counters_after before counts).clauses
counts_about own before [] le a = All-nil (IsClause before)
counts_about own before (count ∷ counts) le a =
    let here = All-head (IsCount own) count counts a in
    let counter = totalizer_of before count.inputs count.bound in
    let next : ℕ = before + counter.vars in
    let later = counters_after next counts in
    let v : ℕ = later.vars in
    let more : next ≤ v = more_variables next counts in
    let inputs : All (IsAbout before) count.inputs = clause_more own before count.inputs le here.about in
    let first = clauses_more next v counter.clauses more (totalizer_is_counter before count.inputs count.bound here.some inputs).clauses_about in
    let told = here.says v (output counter) (omega (arith, le, more)) (λ t low high. about_more next v (output counter t) more (output_about before count here.some inputs t low high)) in
    let rest = counts_about own next counts (omega (arith, le)) (All-tail (IsCount own) count counts a) in
    All-append (IsClause v) (counter.clauses ++ count.says (output counter)) later.clauses
    (All-append (IsClause v) counter.clauses (count.says (output counter)) first told) rest

-- ---- the counts of a candidate

module _ (f : Frame) where
  abbrev m : SendMapValue
  m = f.map

  abbrev v : ℕ
  v = own_variables f

  some_range : (a n : ℕ) → 0 < n → 0 < length (map (extra_round f a) (range_with_len 1 n))
  some_range a n some = let many = length-map-range_with_len (extra_round f a) 1 n in omega (arith, many, some)

  pub rounds_counted : 0 < m.steps → 0 < f.extra → IsCount v (count_of_rounds f)
  rounds_counted steps extra = record {
    some = some_in_flat (λ s. map (extra_round f s) (range_with_len 1 f.extra)) 1 m.steps steps (λ s. some_range s f.extra extra);
    about = in_flat (IsAbout v) (IsStepOf m) (λ s. map (extra_round f s) (range_with_len 1 f.extra)) (steps_of m)
        (λ s step. in_map (IsAbout v) (From 1 f.extra) (extra_round f s) (range_with_len 1 f.extra) (λ j at. extra_about f s j step at) (in_range 1 f.extra)) (in_range 1 m.steps);
    says = λ w o le outs. only_clause w (negation (o (f.extra + 1)) ∷ []) (one w (negation (o (f.extra + 1))) (negation_about w (o (f.extra + 1)) (outs (f.extra + 1) (omega arith) (omega arith))));
  }

  some_links : (c s : ℕ) (links : List (ℕ × ℕ)) → 0 < length links → 0 < length (map (λ link. sent m c (link_number m link) s) links)
  some_links c s [] some = absurd (omega (arith, some))
  some_links c s (link ∷ links) some = omega arith

  pub group_counted : (s : ℕ) (group : GroupValue) → IsStepOf m s → 0 < m.chunks → 0 < length group.links → All (λ link. link_number m link < length m.links) group.links → IsCount v (count_of_group f s group)
  group_counted s group step chunks some places = record {
    some = some_in_flat (λ c. map (λ link. sent m c (link_number m link) s) group.links) 0 m.chunks chunks (λ c. some_links c s group.links some);
    about = in_flat (IsAbout v) (From 0 m.chunks) (λ c. map (λ link. sent m c (link_number m link) s) group.links) (range_with_len 0 m.chunks)
        (λ c low. in_map (IsAbout v) (λ link. link_number m link < length m.links) (λ link. sent m c (link_number m link) s) group.links
        (λ link at. sent_about f c (link_number m link) s (omega (arith, low.1)) at step) places) (in_range 0 m.chunks);
    says = λ w o le outs.
        let last : ℕ = group.width * (1 + f.extra) + 1 in
        All-append (IsClause w) (map (λ j. negation (o (group.width * j + 1)) ∷ extra_round f s j ∷ []) (range_with_len 1 f.extra)) ((negation (o last) ∷ []) ∷ [])
        (in_map (IsClause w) (From 1 f.extra) (λ j. negation (o (group.width * j + 1)) ∷ extra_round f s j ∷ []) (range_with_len 1 f.extra)
        (λ j at.
        let product : group.width * j ≤ group.width * (1 + f.extra) = mul-le-mul_left group.width (omega (arith, at.1)) in
        two w (negation (o (group.width * j + 1))) (extra_round f s j)
        (negation_about w (o (group.width * j + 1)) (outs (group.width * j + 1) (omega arith) (omega (arith, product))))
        (about_more v w (extra_round f s j) le (extra_about f s j step at))) (in_range 1 f.extra))
        (only_clause w (negation (o last) ∷ []) (one w (negation (o last)) (negation_about w (o last) (outs last (omega arith) (omega arith)))));
  }

-- ---- a topology's links

link_listed : (t : TopologyValue) (link : ℕ × ℕ) → IsBelow t.nodes link → is_usable t link ≡ true → list_any (same_pair link) (usable_links t) ≡ true
link_listed t link below usable = holds-placed t.nodes t.nodes (is_usable t) link below.from below.to ∙ usable

in_group : (t : TopologyValue) (k j : ℕ) (d : GroupValue) (e : ℕ × ℕ) → k < length t.groups → j < length (get_or t.groups k d).links → is_usable t (get_or (get_or t.groups k d).links j e) ≡ true
in_group t k j d e low few = grind (arith, nat_tests, list_any_at, pair_itself)

pub placed_links : (t : TopologyValue) (pre : PlacementValue) (steps k : ℕ) (d : GroupValue) → IsTopology t → k < length t.groups → All (λ link. link_number (map_of t pre steps) link < length (usable_links t)) (get_or t.groups k d).links
placed_links t pre steps k d ok low = λ j e few.
    let link = get_or (get_or t.groups k d).links j e in
    place_below (same_pair link) (usable_links t) (link_listed t link (ok.nodes k d low j e few) (in_group t k j d e low few))

-- ---- the formula

-- what holds of the count of rounds, where there are extra ones, and of each group's at each step holds of all counts
pub of_counts : (P : Count → Type 0) (f : Frame) (t : TopologyValue) → (0 < f.extra → P (count_of_rounds f))
    → ((s : ℕ) → IsStepOf f.map s → (i : ℕ) (d : GroupValue) → i < length t.groups → P (count_of_group f s (get_or t.groups i d))) → All P (counts_in f t)
of_counts P f t rounds groups =
    All-append P (if nat_lt 0 f.extra then count_of_rounds f ∷ [] else []) (flat_map (λ s. map (count_of_group f s) t.groups) (steps_of f.map))
    (rounds_if (nat_lt 0 f.extra) (ltb-true 0 f.extra))
    (in_flat P (IsStepOf f.map) (λ s. map (count_of_group f s) t.groups) (steps_of f.map)
    (λ s step. in_map P (λ group. P (count_of_group f s group)) (count_of_group f s) t.groups (λ group it. it) (groups s step)) (in_range 1 f.map.steps))
  where
    rounds_if : (b : Bool) → (b ≡ true → 0 < f.extra) → All P (if b then count_of_rounds f ∷ [] else [])
    rounds_if true more = All-cons P (count_of_rounds f) [] (rounds (more refl)) (All-nil P)
    rounds_if false more = All-nil P

pub all_counts : (t : TopologyValue) (pre : PlacementValue) (steps rounds : ℕ) → IsTopology t → 0 < pre.chunks → 0 < steps → All (IsCount (own_variables (frame_of t pre steps rounds))) (counts_in (frame_of t pre steps rounds) t)
all_counts t pre steps rounds ok chunks some =
    let f = frame_of t pre steps rounds in
    of_counts (IsCount (own_variables f)) f t (rounds_counted f some) (λ s step i d low. group_counted f s (get_or t.groups i d) step chunks (ok.groups i d low).some (placed_links t pre steps i d ok low))

pub is_formula : (t : TopologyValue) (pre post : PlacementValue) (steps rounds : ℕ) → IsTopology t → 0 < pre.chunks → 0 < steps → IsFormula (formula_of t pre post steps rounds)
is_formula t pre post steps rounds ok chunks some =
    let f = frame_of t pre steps rounds in
    let own : ℕ = own_variables f in
    let counters = counters_after own (counts_in f t) in
    let v : ℕ = counters.vars in
    let more : own ≤ v = more_variables own (counts_in f t) in
    let sends = clauses_more own v (sending f.map pre post) more (sending_about f (links_join t pre steps) pre post) in
    let order = clauses_more own v (extra_in_order f) more (order_about f) in
    let counts = counts_about own own (counts_in f t) (omega arith) (all_counts t pre steps rounds ok chunks some) in
    All-append (IsClause v) (sending f.map pre post ++ extra_in_order f) counters.clauses
    (All-append (IsClause v) (sending f.map pre post) (extra_in_order f) sends order) counts
