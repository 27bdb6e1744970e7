-- Sums of fewer chunks: the bags of the first chunks are what they were.
use Rattle.std.proofs.{Common.{◌≡◌, ℕ, zero, suc, ◌+◌, ◌-◌, ◌<◌, ◌≤◌, Bool, true, false, eqb, ltb, cond, List, [], ◌∷◌, length, map, refl, sym, ap, ◌∙◌, subst, ⊎_elim, arith, filter, fold, All}, lemmas.Bool.{and_parts, cases_Bool, lt-ltb}}
use Rattle.std.proofs.lemmas.List.Elements.{All-from_recursion}
use Rattle.schedule.specs.{declared.hop.Hop.Hop, Links.TopologyValue, Placed.{placed, same_pair}, Sends.ScheduleValue, Bags.{Bag, Bags, added, contributions, one_of_each}, Summing.{arriving, bags_after, goes_to, SummedSolvable}}
use Rattle.schedule.proofs.{First.each_weaker, Placing.{IsBelow, pair_is}}
use Rattle.link_faults.proofs.Fewer.{with_spare, length_spare, sum_spare, first_sends, cut_down, valid_down, range_down, fits_down, each_fewer}

-- what arrives at a first chunk
arriving_first : (chunks : ℕ) (hops : List Hop) (new old : Bags) (step c v : ℕ) → c < chunks → ((n : ℕ) → new (c, n) ≡ old (c, n)) → arriving (first_sends chunks hops) new step (c, v) ≡ arriving hops old step (c, v)
arriving_first chunks [] new old step c v cl same = refl
arriving_first chunks (h ∷ hops) new old step c v cl same =
    let bag : Hop → Bag = λ h. new (h.chunk, h.from) in
    let goes : Hop → Bool = goes_to step (c, v) in
    let first : List Hop = first_sends chunks hops in
    let rest : arriving first new step (c, v) ≡ arriving hops old step (c, v) = arriving_first chunks hops new old step c v cl same in
    ⊎_elim
    (λ (comes : goes h ≡ true).
    let aim : (h.chunk, h.to) ≡ (c, v) = pair_is (h.chunk, h.to) (c, v) (and_parts (eqb h.step step) (same_pair (h.chunk, h.to) (c, v)) comes).1 in
    let chunk : h.chunk ≡ c = ap (λ (pair : ℕ × ℕ). pair.0) aim in
    let low : ltb h.chunk chunks ≡ true = lt-ltb h.chunk chunks (omega (arith, chunk, cl)) in
    let here : new (h.chunk, h.from) ≡ old (h.chunk, h.from) = ap (λ x. new (x, h.from)) chunk ∙ same h.from ∙ ap (λ x. old (x, h.from)) (sym chunk) in
    ap (λ b. map bag (filter goes (cond b (h ∷ first) first))) low
    ∙ ap (λ b. map bag (cond b (h ∷ filter goes first) (filter goes first))) comes
    ∙ ap (λ b. b ∷ map bag (filter goes first)) here
    ∙ ap (λ bs. old (h.chunk, h.from) ∷ bs) rest
    ∙ sym (ap (λ b. map (λ h. old (h.chunk, h.from)) (cond b (h ∷ filter goes hops) (filter goes hops))) comes))
    (λ (passes : goes h ≡ false).
    let none : map bag (filter goes (h ∷ first)) ≡ map bag (filter goes first) = ap (λ b. map bag (cond b (h ∷ filter goes first) (filter goes first))) passes in
    let dropped : map bag (filter goes (first_sends chunks (h ∷ hops))) ≡ map bag (filter goes first) =
    ⊎_elim
    (λ (low : ltb h.chunk chunks ≡ true). ap (λ b. map bag (filter goes (cond b (h ∷ first) first))) low ∙ none)
    (λ (high : ltb h.chunk chunks ≡ false). ap (λ b. map bag (filter goes (cond b (h ∷ first) first))) high)
    (cases_Bool (ltb h.chunk chunks)) in
    dropped ∙ rest ∙ sym (ap (λ b. map (λ h. old (h.chunk, h.from)) (cond b (h ∷ filter goes hops) (filter goes hops))) passes))
    (cases_Bool (goes h))

-- after each step the first chunks have the bags that they had
pub bags_first : (chunks : ℕ) (start : Bags) (sends : List Hop) (k c v : ℕ) → c < chunks → bags_after start (first_sends chunks sends) k (c, v) ≡ bags_after start sends k (c, v)
bags_first chunks start sends zero c v cl = refl
bags_first chunks start sends (suc k) c v cl =
    let new : Bags = bags_after start (first_sends chunks sends) k in
    let old : Bags = bags_after start sends k in
    ap (λ b. fold added b (arriving (first_sends chunks sends) new (k + 1) (c, v))) (bags_first chunks start sends k c v cl)
    ∙ ap (fold added (old (c, v))) (arriving_first chunks sends new old (k + 1) c v cl (λ n. bags_first chunks start sends k c n cl))

-- where more chunks can be summed, fewer can, in no fewer rounds
pub summed_fewer : (t : TopologyValue) (chunks wide nodes : ℕ) (aim : ℕ × ℕ → Bool) (steps rounds more_rounds : ℕ) → chunks ≤ wide → rounds ≤ more_rounds → more_rounds ≤ steps + 8
    → SummedSolvable t (placed wide nodes aim) steps rounds → SummedSolvable t (placed chunks nodes aim) steps more_rounds
summed_fewer t chunks wide nodes aim steps rounds more_rounds more longer few solvable =
    let s : ScheduleValue = solvable.schedule in
    let sums = solvable.sums in
    let spare : ℕ = more_rounds - rounds in
    let same : length (with_spare spare s.rounds) ≡ length s.rounds = length_spare spare s.rounds in
    record {
      schedule = cut_down chunks spare s;
      valid = valid_down chunks spare s solvable.valid (omega (arith, sums.steps_are, sums.rounds_are, longer, few));
      in_range = range_down chunks wide nodes spare s solvable.in_range;
      sums = record {
        steps_are = same ∙ sums.steps_are;
        rounds_are = omega (arith, sum_spare spare s.rounds solvable.valid.some, sums.rounds_are, longer);
        fits = fits_down t chunks spare s sums.fits;
        sums = subst (λ n. All (λ pair. bags_after (contributions t.nodes) (first_sends chunks s.sends) n pair ≡ one_of_each t.nodes) (placed chunks nodes aim).pairs) (sym same)
            (All-from_recursion (λ pair. bags_after (contributions t.nodes) (first_sends chunks s.sends) (length s.rounds) pair ≡ one_of_each t.nodes) (placed chunks nodes aim).pairs
            (each_weaker (λ pair. IsBelow chunks nodes pair × (bags_after (contributions t.nodes) s.sends (length s.rounds) pair ≡ one_of_each t.nodes)) (λ pair. bags_after (contributions t.nodes) (first_sends chunks s.sends) (length s.rounds) pair ≡ one_of_each t.nodes)
            (λ pair h. bags_first chunks (contributions t.nodes) s.sends (length s.rounds) pair.0 pair.1 h.0.0 ∙ h.1)
            (placed chunks nodes aim).pairs (each_fewer (λ pair. bags_after (contributions t.nodes) s.sends (length s.rounds) pair ≡ one_of_each t.nodes) chunks wide nodes aim more sums.sums)));
      };
    }
