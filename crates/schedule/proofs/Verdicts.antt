-- What the verdict says, from the first send, the first turn and the first pair that fail.
use Rattle.std.proofs.{Common.{◌≡◌, ℕ, ◌*◌, ◌<◌, ◌≤◌, Bool, true, false, not, ◌&&◌, ◌||◌, eqb, ltb, List, length, get_or, Option, Some, None, refl, sym, ap, ◌∙◌, arith, ◌↔◌}, lemmas.List.get_or_default}
use Rattle.std.{proofs.lemmas.{List.Elements.{All-from_recursion, recursion_from_All}, Bool.{Decides.nat_tests, ltb-true, ltb-false, lt-ltb, le-ltb, not-true, not-false, not_from_true, not_from_false}}, specs.List.{find, All}}
use Rattle.schedule.specs.{declared.{hop.Hop.Hop, verdict.Verdict.Verdict}, Links.{GroupValue, TopologyValue, is_usable}, Running.after, Sends.{ScheduleValue, IsSchedule, IsStep, hop_before, link_of}}
use Rattle.schedule.specs.{Placed.{PlacementValue, IsPlacement, holds}, Fitting.{Fits, load, rounds_at}, Judging.{first_unlinked, first_overfull, first_lacking, group_at, turns, is_overfull, judged, verdict_of}}
use Rattle.schedule.specs.Failing.{IsFirstOverfull, pair_before, TellsSolves, TellsNoLink, TellsOverfull, TellsLacking}
use Rattle.schedule.proofs.First.{Among, InOrder, OneWay, IsFirst, InOrder-from_pairs, Among-from_Contains, Contains-from_Among, among_each, each_weaker, found_first, first_found, found_none, none_found}
use Rattle.schedule.proofs.Ordered.{IsCell, in_grid, grid_cells, grid_order, pairs_one_way, placement_order, among_from_any, any_from_among}
use Rattle.schedule.specs.declared.verdict.Verdict.TheVariants as verdict

-- of two orders by a number first, both ways round, the number decides neither
tied : (a b : ℕ) (there back : Bool) → (ltb a b || (eqb a b && there)) ≡ true → (ltb b a || (eqb b a && back)) ≡ true → (there ≡ true) × (back ≡ true)
tied a b there back first second = grind (arith, nat_tests)

pub sends_one_way : OneWay hop_before
sends_one_way a b there back = grind (arith, nat_tests, tied)

-- where no element fails a test, each passes it
all_pass : {X : Type 0} (test : X → Bool) (xs : List X) → find (λ x. not (test x)) xs ≡ None → All (λ x. test x ≡ true) xs
all_pass test xs none =
    All-from_recursion (λ x. test x ≡ true) xs (each_weaker (λ x. not (test x) ≡ false) (λ x. test x ≡ true) (λ x fails. not-false _ fails) xs (found_none (λ x. not (test x)) xs none))

none_fails : {X : Type 0} (test : X → Bool) (xs : List X) → All (λ x. test x ≡ true) xs → find (λ x. not (test x)) xs ≡ None
none_fails test xs all =
    none_found (λ x. not (test x)) xs (each_weaker (λ x. test x ≡ true) (λ x. not (test x) ≡ false) (λ x passes. not_from_true _ passes) xs (recursion_from_All (λ x. test x ≡ true) xs all))

-- the first that fails it
fails_first : {X : Type 0} (before : X → X → Bool) (test : X → Bool) (xs : List X) (x : X) → OneWay before → InOrder before xs → find (λ y. not (test y)) xs ≡ Some x → Among x xs × (test x ≡ false) × All (λ y. before y x ≡ true → test y ≡ true) xs
fails_first before test xs x one_way order found =
    let first = found_first before (λ y. not (test y)) xs x one_way order found in
    (first.among, not-true _ first.passes, All-from_recursion (λ y. before y x ≡ true → test y ≡ true) xs (each_weaker (λ y. before y x ≡ true → not (test y) ≡ false) (λ y. before y x ≡ true → test y ≡ true) (λ y fails earlier. not-false _ (fails earlier)) xs first.earlier))

first_fails : {X : Type 0} (before : X → X → Bool) (test : X → Bool) (xs : List X) (x : X) → InOrder before xs → Among x xs → test x ≡ false → All (λ y. before y x ≡ true → test y ≡ true) xs → find (λ y. not (test y)) xs ≡ Some x
first_fails before test xs x order among fails earlier =
    first_found before (λ y. not (test y)) xs x order (record {
      among = among;
      passes = not_from_false _ fails;
      earlier = each_weaker (λ y. before y x ≡ true → test y ≡ true) (λ y. before y x ≡ true → not (test y) ≡ false) (λ y passes before. not_from_true _ (passes before)) xs (recursion_from_All (λ y. before y x ≡ true → test y ≡ true) xs earlier);
    })

abbrev linked : TopologyValue → Hop → Bool
linked t h = is_usable t (link_of h)

-- a step and a group of the schedule and the topology
turn_cell : (t : TopologyValue) (s : ScheduleValue) (step group : ℕ) → IsStep (length s.rounds) step → group < length t.groups → IsCell 1 (length s.rounds) (length t.groups) (step, group)
turn_cell t s step group is below = record { from = omega (arith, is.from); to = omega (arith, is.to); column = below }

cell_step : (t : TopologyValue) (s : ScheduleValue) (turn : ℕ × ℕ) → IsCell 1 (length s.rounds) (length t.groups) turn → IsStep (length s.rounds) turn.0
cell_step t s turn is = record { from = omega (arith, is.from); to = omega (arith, is.to) }

overfull_is : (t : TopologyValue) (s : ScheduleValue) (step group count : ℕ) → first_overfull t s ≡ Some (step, group) → count ≡ load (group_at t group) step s.sends → IsFirstOverfull t s step group count
overfull_is t s step group count found loaded =
    let first : IsFirst pair_before (is_overfull t s) (turns t s) (step, group) = found_first pair_before (is_overfull t s) (turns t s) (step, group) pairs_one_way (grid_order 1 (length s.rounds) (length t.groups)) found in
    let cell : IsCell 1 (length s.rounds) (length t.groups) (step, group) = among_each (IsCell 1 (length s.rounds) (length t.groups)) (step, group) (turns t s) (grid_cells 1 (length s.rounds) (length t.groups)) first.among in
    record {
      step_is = cell_step t s (step, group) cell;
      group_is = cell.column;
      load_is = loaded;
      over = omega (arith, ltb-true _ _ first.passes);
      before = λ i g is below earlier. ltb-false _ _ (among_each (λ turn. pair_before turn (step, group) ≡ true → is_overfull t s turn ≡ false) (i, g) (turns t s) first.earlier (in_grid 1 (length s.rounds) (length t.groups) (i, g) (turn_cell t s i g is below)) earlier);
    }

is_first_overfull : (t : TopologyValue) (s : ScheduleValue) (step group count : ℕ) → IsFirstOverfull t s step group count → first_overfull t s ≡ Some (step, group)
is_first_overfull t s step group count first =
    first_found pair_before (is_overfull t s) (turns t s) (step, group) (grid_order 1 (length s.rounds) (length t.groups)) (record {
      among = in_grid 1 (length s.rounds) (length t.groups) (step, group) (turn_cell t s step group first.step_is first.group_is);
      passes = lt-ltb _ _ (omega (arith, first.over, first.load_is));
      earlier = each_weaker (IsCell 1 (length s.rounds) (length t.groups)) (λ turn. pair_before turn (step, group) ≡ true → is_overfull t s turn ≡ false) (λ turn cell earlier. le-ltb _ _ (first.before turn.0 turn.1 (cell_step t s turn cell) cell.column earlier)) (turns t s) (grid_cells 1 (length s.rounds) (length t.groups));
    })

-- each group is within its bandwidth in each step
abbrev AllWithinBandwidth : TopologyValue → ScheduleValue → Type 0
AllWithinBandwidth t s = (step : ℕ) → 0 < step → step ≤ length s.rounds → All (λ group. load group step s.sends ≤ group.width * rounds_at s step) t.groups

within_is : (t : TopologyValue) (s : ScheduleValue) → first_overfull t s ≡ None → AllWithinBandwidth t s
within_is t s none step from to k d inside =
    let fails : is_overfull t s (step, k) ≡ false = among_each (λ turn. is_overfull t s turn ≡ false) (step, k) (turns t s) (found_none (is_overfull t s) (turns t s) none) (in_grid 1 (length s.rounds) (length t.groups) (step, k) (turn_cell t s step k (record { from = from; to = to }) inside)) in
    let group : group_at t k ≡ get_or t.groups k d = get_or_default t.groups k _ d inside in
    let P : GroupValue → Type 0 = λ g. load g step s.sends ≤ g.width * rounds_at s step in
    let mine : P (group_at t k) = ltb-false _ _ fails in
    rw (← group) mine

is_within : (t : TopologyValue) (s : ScheduleValue) → AllWithinBandwidth t s → first_overfull t s ≡ None
is_within t s within =
    none_found (is_overfull t s) (turns t s) (each_weaker (IsCell 1 (length s.rounds) (length t.groups)) (λ turn. is_overfull t s turn ≡ false) (λ turn cell. le-ltb _ _ (within turn.0 (omega (arith, cell.from)) (omega (arith, cell.to)) turn.1 _ cell.column)) (turns t s) (grid_cells 1 (length s.rounds) (length t.groups)))

-- which part of the three comes out
judged_solves : (t : TopologyValue) (s : ScheduleValue) (h : Option Hop) (turn pair : Option (ℕ × ℕ)) → judged t s h turn pair ≡ verdict.Solves → (h ≡ None) × (turn ≡ None) × (pair ≡ None)
judged_solves t s h turn pair is = grind arith

judged_no_link : (t : TopologyValue) (s : ScheduleValue) (h : Option Hop) (turn pair : Option (ℕ × ℕ)) (hop : Hop) → judged t s h turn pair ≡ verdict.NoLink hop → h ≡ Some hop
judged_no_link t s h turn pair hop is = grind arith

judged_overfull : (t : TopologyValue) (s : ScheduleValue) (h : Option Hop) (turn pair : Option (ℕ × ℕ)) (step group count : ℕ) → judged t s h turn pair ≡ verdict.Overfull step group count → (h ≡ None) × (turn ≡ Some (step, group)) × (count ≡ load (group_at t group) step s.sends)
judged_overfull t s h turn pair step group count is = grind arith

judged_lacking : (t : TopologyValue) (s : ScheduleValue) (h : Option Hop) (turn pair : Option (ℕ × ℕ)) (chunk node : ℕ) → judged t s h turn pair ≡ verdict.Lacking chunk node → (h ≡ None) × (turn ≡ None) × (pair ≡ Some (chunk, node))
judged_lacking t s h turn pair chunk node is = grind arith

fits_is : (t : TopologyValue) (s : ScheduleValue) → first_unlinked t s ≡ None → first_overfull t s ≡ None → Fits t s
fits_is t s none within = record { usable = all_pass (linked t) s.sends none; within = within_is t s within }

pub fits_exactly : (t : TopologyValue) (s : ScheduleValue) → Fits t s ↔ ((first_unlinked t s ≡ None) × (first_overfull t s ≡ None))
fits_exactly t s = (λ fits. (none_fails (linked t) s.sends fits.usable, is_within t s fits.within), λ none. fits_is t s none.0 none.1)

pub tells_solves : (t : TopologyValue) (pre post : PlacementValue) (s : ScheduleValue) (v : Verdict) → v ≡ verdict_of t pre post s → TellsSolves t pre post s v
tells_solves t pre post s v is = (
  λ said.
      let none = judged_solves t s (first_unlinked t s) (first_overfull t s) (first_lacking pre post s) (sym is ∙ said) in
      record { steps_are = refl; rounds_are = refl; fits = fits_is t s none.0 none.1; delivers = all_pass (holds (after pre s (length s.rounds))) post.pairs none.2 },
  λ solves. is ∙ rw (none_fails (linked t) s.sends solves.fits.usable, is_within t s solves.fits.within, none_fails (holds (after pre s (length s.rounds))) post.pairs solves.delivers) refl,
)

pub tells_no_link : (t : TopologyValue) (pre post : PlacementValue) (s : ScheduleValue) (v : Verdict) → IsSchedule s → v ≡ verdict_of t pre post s → TellsNoLink t s v
tells_no_link t pre post s v valid is hop =
    let order = InOrder-from_pairs hop_before s.sends valid.ascending in (
      λ said.
          let first = fails_first hop_before (linked t) s.sends hop sends_one_way order (judged_no_link t s (first_unlinked t s) (first_overfull t s) (first_lacking pre post s) hop (sym is ∙ said)) in
          record { sent = Contains-from_Among hop s.sends first.0; unlinked = first.1; before = first.2 },
      λ first. is ∙ rw (first_fails hop_before (linked t) s.sends hop order (Among-from_Contains hop s.sends first.sent) first.unlinked first.before) refl,
    )

pub tells_overfull : (t : TopologyValue) (pre post : PlacementValue) (s : ScheduleValue) (v : Verdict) → v ≡ verdict_of t pre post s → TellsOverfull t s v
tells_overfull t pre post s v is step group count = (
  λ said.
      let found = judged_overfull t s (first_unlinked t s) (first_overfull t s) (first_lacking pre post s) step group count (sym is ∙ said) in
      (all_pass (linked t) s.sends found.0, overfull_is t s step group count found.1 found.2),
  λ first. is ∙ rw (none_fails (linked t) s.sends first.0, is_first_overfull t s step group count first.1) (ap (verdict.Overfull step group) (sym first.1.load_is)),
)

pub tells_lacking : (t : TopologyValue) (pre post : PlacementValue) (s : ScheduleValue) (v : Verdict) → IsPlacement post → v ≡ verdict_of t pre post s → TellsLacking t pre post s v
tells_lacking t pre post s v valid is chunk node =
    let last = after pre s (length s.rounds) in (
      λ said.
          let found = judged_lacking t s (first_unlinked t s) (first_overfull t s) (first_lacking pre post s) chunk node (sym is ∙ said) in
          let first = fails_first pair_before (holds last) post.pairs (chunk, node) pairs_one_way (placement_order post valid) found.2 in
          (fits_is t s found.0 found.1, record { demanded = any_from_among (chunk, node) post.pairs first.0; lacking = first.1; before = first.2 }),
      λ first. is ∙ rw (none_fails (linked t) s.sends first.0.usable, is_within t s first.0.within, first_fails pair_before (holds last) post.pairs (chunk, node) (placement_order post valid) (among_from_any (chunk, node) post.pairs first.1.demanded) first.1.lacking first.1.before) refl,
    )

-- the group that is over its bandwidth is one of the topology's
pub overfull_below : (t : TopologyValue) (s : ScheduleValue) (step group : ℕ) → first_overfull t s ≡ Some (step, group) → group < length t.groups
overfull_below t s step group found = (overfull_is t s step group _ found refl).group_is
