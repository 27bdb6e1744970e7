-- A schedule of more chunks, cut down to the first of them: it does for these what it did, also with rounds to spare.
use Rattle.std.proofs.{Common.{◌≡◌, ℕ, zero, suc, ◌+◌, ◌<◌, ◌≤◌, ◌*◌, ◌-◌, Bool, true, false, ◌||◌, ◌&&◌, eqb, ltb, cond, List, [], ◌∷◌, length, get_or, sum, refl, sym, ap, ◌∙◌, subst, ⊎_elim, arith, filter, All}, lemmas.Nat.mul-le}
use Rattle.std.proofs.lemmas.{List.{Kept.AllPairs-filter, Elements.{All-filter, filter_passes, All-from_recursion, All-weaker, recursion_from_All}}, Bool.{false≢true, and_parts, and_from, cases_Bool, ltb-true, lt-ltb, false_from_ne_true}}
use Rattle.std.specs.List.{list_any, AllByRecursion}
use Rattle.schedule.specs.{declared.hop.Hop.Hop, Links.{TopologyValue, has_link, is_usable}, Placed.{PlacementValue, holds, placed, same_pair, all_pairs}}
use Rattle.schedule.specs.{Sends.{ScheduleValue, IsSchedule, IsInRange, IsRound, IsStep, hop_before, is_hop_below, link_of}, Running.{after, brings}, Fitting.{Fits, load, rounds_at}, Solving.Solvable}
use Rattle.schedule.proofs.{First.{among_each, each_among, each_weaker, filter_among}, Ordered.among_from_any, Placing.{IsBelow, all_below, holds-placed, pair_is}, Stepping.{chunks-after, nodes-after}}
use Rattle.inversion.proofs.Firsts.{counted_kept}
use Rattle.round_encoding.proofs.Rounds.{sum_cons}

-- ---- rounds to spare, which the first step takes

abbrev pub with_spare : ℕ → List ℕ → List ℕ
with_spare spare [] = []
with_spare spare (r ∷ rounds) = (r + spare) ∷ rounds

pub length_spare : (spare : ℕ) (rounds : List ℕ) → length (with_spare spare rounds) ≡ length rounds
length_spare spare [] = refl
length_spare spare (r ∷ rounds) = refl

pub sum_spare : (spare : ℕ) (rounds : List ℕ) → 0 < length rounds → sum (with_spare spare rounds) ≡ sum rounds + spare
sum_spare spare [] some = absurd (omega (arith, some))
sum_spare spare (r ∷ rounds) some = omega (arith, sum_cons r rounds, sum_cons (r + spare) rounds)

no_less : (rounds : List ℕ) → AllByRecursion IsRound rounds → length rounds ≤ sum rounds
no_less [] each = omega arith
no_less (r ∷ rounds) each = omega (arith, sum_cons r rounds, each.0.some, no_less rounds each.1)

rounds_spare : (spare : ℕ) (rounds : List ℕ) → AllByRecursion IsRound rounds → sum rounds + spare ≤ length rounds + 8 → AllByRecursion IsRound (with_spare spare rounds)
rounds_spare spare [] each few = tt
rounds_spare spare (r ∷ rounds) each few = (record { some = omega (arith, each.0.some); few = omega (arith, few, sum_cons r rounds, no_less rounds each.1) }, each.1)

more_rounds : (spare : ℕ) (rounds : List ℕ) (k : ℕ) → get_or rounds k 0 ≤ get_or (with_spare spare rounds) k 0
more_rounds spare [] k = omega arith
more_rounds spare (r ∷ rounds) zero = omega arith
more_rounds spare (r ∷ rounds) (suc k) = omega arith

-- ---- the sends of the first chunks

abbrev pub first_sends : ℕ → List Hop → List Hop
first_sends chunks sends = filter (λ h. ltb h.chunk chunks) sends

abbrev pub cut_down : ℕ → ℕ → ScheduleValue → ScheduleValue
cut_down chunks spare s = record { rounds = with_spare spare s.rounds; sends = first_sends chunks s.sends }

pub valid_down : (chunks spare : ℕ) (s : ScheduleValue) → IsSchedule s → sum s.rounds + spare ≤ length s.rounds + 8 → IsSchedule (cut_down chunks spare s)
valid_down chunks spare s valid few =
    let same : length (with_spare spare s.rounds) ≡ length s.rounds = length_spare spare s.rounds in
    record {
      some = omega (arith, valid.some, same);
      few = omega (arith, valid.few, same);
      rounds = All-from_recursion IsRound (with_spare spare s.rounds) (rounds_spare spare s.rounds (recursion_from_All IsRound s.rounds valid.rounds) few);
      steps = subst (λ n. All (λ h. IsStep n h.step) (first_sends chunks s.sends)) (sym same) (All-filter (λ h. ltb h.chunk chunks) (λ h. IsStep (length s.rounds) h.step) s.sends valid.steps);
      ascending = AllPairs-filter (λ a b. hop_before a b ≡ true) (λ h. ltb h.chunk chunks) s.sends valid.ascending;
    }

pub range_down : (chunks wide nodes spare : ℕ) (s : ScheduleValue) → IsInRange wide nodes s → IsInRange chunks nodes (cut_down chunks spare s)
range_down chunks wide nodes spare s range = λ k d low.
    let h : Hop = get_or (first_sends chunks s.sends) k d in
    let first : ltb h.chunk chunks ≡ true = filter_passes (λ h. ltb h.chunk chunks) s.sends k d low in
    let below : is_hop_below wide nodes h ≡ true = All-filter (λ h. ltb h.chunk chunks) (λ h. is_hop_below wide nodes h ≡ true) s.sends range k d low in
    and_from (ltb h.chunk chunks) (ltb h.from nodes && ltb h.to nodes) first (and_parts (ltb h.chunk wide) (ltb h.from nodes && ltb h.to nodes) below).1

pub fits_down : (t : TopologyValue) (chunks spare : ℕ) (s : ScheduleValue) → Fits t s → Fits t (cut_down chunks spare s)
fits_down t chunks spare s fits = record {
  usable = All-filter (λ h. ltb h.chunk chunks) (λ h. is_usable t (link_of h) ≡ true) s.sends fits.usable;
  within = λ step from to.
      let same : length (with_spare spare s.rounds) ≡ length s.rounds = length_spare spare s.rounds in
      All-weaker (λ group. load group step s.sends ≤ group.width * rounds_at s step) (λ group. load group step (first_sends chunks s.sends) ≤ group.width * rounds_at (cut_down chunks spare s) step)
      (λ group small.
      let fewer : load group step (first_sends chunks s.sends) ≤ load group step s.sends = counted_kept (λ h. eqb h.step step && has_link group (link_of h)) (λ h. ltb h.chunk chunks) s.sends in
      let more : rounds_at s step ≤ rounds_at (cut_down chunks spare s) step = more_rounds spare s.rounds (step - 1) in
      let wider : group.width * rounds_at s step ≤ group.width * rounds_at (cut_down chunks spare s) step = mul-le group.width (rounds_at s step) group.width (rounds_at (cut_down chunks spare s) step) (omega arith) more in
      omega (arith, small, fewer, wider))
      t.groups (fits.within step from (omega (arith, to, same)));
}

-- ---- the run

any_first : (chunks : ℕ) (Q : Hop → Type 0) (p q : Hop → Bool) (hops : List Hop) → ((h : Hop) → Q h → ltb h.chunk chunks ≡ true → p h ≡ q h) → ((h : Hop) → ltb h.chunk chunks ≡ false → q h ≡ false)
    → AllByRecursion Q hops → list_any p (first_sends chunks hops) ≡ list_any q hops
any_first chunks Q p q [] same none each = refl
any_first chunks Q p q (h ∷ hops) same none each =
    let rest : list_any p (first_sends chunks hops) ≡ list_any q hops = any_first chunks Q p q hops same none each.1 in
    ⊎_elim
    (λ (first : ltb h.chunk chunks ≡ true).
    ap (λ b. list_any p (cond b (h ∷ first_sends chunks hops) (first_sends chunks hops))) first ∙ ap (λ b. b || list_any p (first_sends chunks hops)) (same h each.0 first) ∙ ap (λ b. q h || b) rest)
    (λ (other : ltb h.chunk chunks ≡ false).
    ap (λ b. list_any p (cond b (h ∷ first_sends chunks hops) (first_sends chunks hops))) other ∙ rest ∙ ap (λ b. b || list_any q hops) (sym (none h other)))
    (cases_Bool (ltb h.chunk chunks))

-- what holds of all pairs of more chunks that pass a test holds of those of fewer
pub each_fewer : (P : ℕ × ℕ → Type 0) (chunks wide nodes : ℕ) (test : ℕ × ℕ → Bool) → chunks ≤ wide → All P (placed wide nodes test).pairs → AllByRecursion (λ pair. IsBelow chunks nodes pair × P pair) (placed chunks nodes test).pairs
each_fewer P chunks wide nodes test more each =
    each_among (λ pair. IsBelow chunks nodes pair × P pair) (placed chunks nodes test).pairs (λ pair among.
    let (there, passes) = filter_among test pair (all_pairs chunks nodes) among in
    let below : IsBelow chunks nodes pair = among_each (IsBelow chunks nodes) pair (all_pairs chunks nodes) (all_below chunks nodes) there in
    let held : holds (placed wide nodes test) pair ≡ true = holds-placed wide nodes test pair (omega (arith, below.0, more)) below.1 ∙ passes in
    (below, among_each P pair (placed wide nodes test).pairs (recursion_from_All P (placed wide nodes test).pairs each) (among_from_any pair (placed wide nodes test).pairs held)))

module _ (chunks wide nodes : ℕ) (test : ℕ × ℕ → Bool) (spare : ℕ) (s : ScheduleValue) (more : chunks ≤ wide) (range : IsInRange wide nodes s) where
  -- the first chunks are held where they were
  pub same_held : (k c n : ℕ) → c < chunks → n < nodes → holds (after (placed chunks nodes test) (cut_down chunks spare s) k) (c, n) ≡ holds (after (placed wide nodes test) s k) (c, n)
  same_held zero c n cl nl = holds-placed chunks nodes test (c, n) cl nl ∙ sym (holds-placed wide nodes test (c, n) (omega (arith, cl, more)) nl)
  same_held (suc k) c n cl nl =
      let few : PlacementValue = placed chunks nodes test in
      let all : PlacementValue = placed wide nodes test in
      let new = after few (cut_down chunks spare s) k in
      let old = after all s k in
      let hops = first_sends chunks s.sends in
      let p : Hop → Bool = brings new (k + 1) (c, n) in
      let q : Hop → Bool = brings old (k + 1) (c, n) in
      let here : holds new (c, n) ≡ holds old (c, n) = same_held k c n cl nl in
      let same : (h : Hop) → is_hop_below wide nodes h ≡ true → ltb h.chunk chunks ≡ true → p h ≡ q h = λ h below first.
      let ends = and_parts (ltb h.from nodes) (ltb h.to nodes) (and_parts (ltb h.chunk wide) (ltb h.from nodes && ltb h.to nodes) below).1 in
      ap (λ b. eqb h.step (k + 1) && (same_pair (h.chunk, h.to) (c, n) && b)) (same_held k h.chunk h.from (ltb-true h.chunk chunks first) (ltb-true h.from nodes ends.0)) in
      let none : (h : Hop) → ltb h.chunk chunks ≡ false → q h ≡ false = λ h other.
      false_from_ne_true (q h) (λ brought.
      let parts = and_parts (eqb h.step (k + 1)) (same_pair (h.chunk, h.to) (c, n) && holds old (h.chunk, h.from)) brought in
      let aim : (h.chunk, h.to) ≡ (c, n) = pair_is (h.chunk, h.to) (c, n) (and_parts (same_pair (h.chunk, h.to) (c, n)) (holds old (h.chunk, h.from)) parts.1).0 in
      let chunk : h.chunk ≡ c = ap (λ (pair : ℕ × ℕ). pair.0) aim in
      false≢true (sym other ∙ lt-ltb h.chunk chunks (omega (arith, chunk, cl)))) in
      let any : list_any p hops ≡ list_any q s.sends = any_first chunks (λ h. is_hop_below wide nodes h ≡ true) p q s.sends same none (recursion_from_All (λ h. is_hop_below wide nodes h ≡ true) s.sends range) in
      holds-placed new.chunks new.nodes (λ pair. holds new pair || list_any (brings new (k + 1) pair) hops) (c, n) (omega (arith, cl, chunks-after few (cut_down chunks spare s) k)) (omega (arith, nl, nodes-after few (cut_down chunks spare s) k))
      ∙ ap (λ b. b || list_any p hops) here
      ∙ ap (λ b. holds old (c, n) || b) any
      ∙ sym (holds-placed old.chunks old.nodes (λ pair. holds old pair || list_any (brings old (k + 1) pair) s.sends) (c, n) (omega (arith, cl, more, chunks-after all s k)) (omega (arith, nl, nodes-after all s k)))

-- where more chunks can be brought to their places, fewer can, in no fewer rounds
pub solvable_fewer : (t : TopologyValue) (chunks wide nodes : ℕ) (before aim : ℕ × ℕ → Bool) (steps rounds more_rounds : ℕ) → chunks ≤ wide → rounds ≤ more_rounds → more_rounds ≤ steps + 8
    → Solvable t (placed wide nodes before) (placed wide nodes aim) steps rounds → Solvable t (placed chunks nodes before) (placed chunks nodes aim) steps more_rounds
solvable_fewer t chunks wide nodes before aim steps rounds more_rounds more longer few solvable =
    let s : ScheduleValue = solvable.schedule in
    let solves = solvable.solves in
    let spare : ℕ = more_rounds - rounds in
    let same : length (with_spare spare s.rounds) ≡ length s.rounds = length_spare spare s.rounds in
    record {
      schedule = cut_down chunks spare s;
      valid = valid_down chunks spare s solvable.valid (omega (arith, solves.steps_are, solves.rounds_are, longer, few));
      in_range = range_down chunks wide nodes spare s solvable.in_range;
      solves = record {
        steps_are = same ∙ solves.steps_are;
        rounds_are = omega (arith, sum_spare spare s.rounds solvable.valid.some, solves.rounds_are, longer);
        fits = fits_down t chunks spare s solves.fits;
        delivers = subst (λ n. All (λ pair. holds (after (placed chunks nodes before) (cut_down chunks spare s) n) pair ≡ true) (placed chunks nodes aim).pairs) (sym same)
            (All-from_recursion (λ pair. holds (after (placed chunks nodes before) (cut_down chunks spare s) (length s.rounds)) pair ≡ true) (placed chunks nodes aim).pairs
            (each_weaker (λ pair. IsBelow chunks nodes pair × (holds (after (placed wide nodes before) s (length s.rounds)) pair ≡ true)) (λ pair. holds (after (placed chunks nodes before) (cut_down chunks spare s) (length s.rounds)) pair ≡ true)
            (λ pair h. same_held chunks wide nodes before spare s more solvable.in_range (length s.rounds) pair.0 pair.1 h.0.0 h.0.1 ∙ h.1)
            (placed chunks nodes aim).pairs (each_fewer (λ pair. holds (after (placed wide nodes before) s (length s.rounds)) pair ≡ true) chunks wide nodes aim more solves.delivers)));
      };
    }
