-- The lines that are appended for a point are those that it shows.
use Rattle.std.proofs.{Common.{◌≡◌, ℕ, zero, suc, ◌+◌, ◌<◌, ◌≤◌, Bool, true, false, if◌then◌else◌, List, [], ◌∷◌, ◌++◌, map, length, Option, Some, refl, sym, ap, ◌∙◌, arith, codes, decimal}, lemmas.Grind.{common_steps, flat_map-append}}
use Rattle.std.{proofs.lemmas.Simd.map-map, specs.List.range_with_len}
use Rattle.schedule.specs.{Sends.ScheduleValue, Placed.PlacementValue, Links.TopologyValue, Bags.{Bags, contributions, held_at_2}, Running.run_of, JoinedRuns.joined_run, Judging.verdict_of, declared.verdict.Verdict.Verdict}
use Rattle.inversion.specs.{declared.verdict.SumVerdict.SumVerdict, Saying.{says_solves, says_sums}}
use Rattle.collective_spec.specs.{declared.spec.Spec.Spec, Collectives.spec_demand}
use Rattle.bag_runs.{specs.Stores.{StoreValue, stored}, proofs.Tables.table_cell}
use Rattle.node_programs.specs.Runs.{chosen, operations}
use Rattle.text_lines.specs.Text.{line, text_of}
use Rattle.topology_text.specs.Spelling.{name_at}
use Rattle.replay_text.specs.{Replay.{held_lines, numbered_steps, verdict_words}, Points.body_lines}
use Rattle.replay_text.specs.Showing.{Shown, adding_of, bag_lines, chunks_at, copied_verdict, holds_as_shown, instance_at, machine_of, is_copied, nodes_of, order_lines, shown_steps, shown_text, shown_verdict, steps_that_add, sum_words, summed_verdict}
use Rattle.replay_text.{specs.inner.Appended.{last_of, move_lines, bag_word, digits_of, keeper_words, store_lines, bag_words, counts_word}, proofs.Lines.{appends, run_text}}

-- ---- what a point shows, by whether it copies

abbrev steps_if : Shown → Bool → List (List (List (List ℕ)))
steps_if x copied = if copied then map (held_lines x.names) (run_of (instance_at x).pre x.point.schedule) else map (bag_lines x) (joined_run (contributions (nodes_of x)) x.point.schedule (adding_of x))

abbrev words_if : Shown → Bool → List (List ℕ)
words_if x copied = if copied then verdict_words x.names (copied_verdict x) else sum_words x.names (summed_verdict x)

abbrev holds_if : Shown → Bool → Bool
holds_if x copied = if copied then says_solves (copied_verdict x) else says_sums (summed_verdict x)

pub body_text : (x : Shown) (order : Option ℕ) (holds : Bool) (steps : List (List (List (List ℕ)))) (words : List (List ℕ)) (a b c d : List ℕ) → steps ≡ shown_steps x → words ≡ shown_verdict x → holds ≡ holds_as_shown x
    → b ≡ a ++ text_of (numbered_steps 0 steps) → c ≡ b ++ line words → d ≡ c ++ text_of (if holds then order_lines x order else []) → d ≡ a ++ text_of (body_lines x order)
body_text x order holds steps words a b c d s w h p q r =
    run_text (numbered_steps 0 (shown_steps x)) (if holds_as_shown x then order_lines x order else []) (shown_verdict x) a b c d
    (p ∙ ap (λ ls. a ++ text_of (numbered_steps 0 ls)) s) (q ∙ ap (λ ws. b ++ line ws) w) (r ∙ ap (λ k. c ++ text_of (if k then order_lines x order else [])) h)

-- the moves of a run, and what the nodes have in the end
pub order_text : (x : Shown) (names : List (List ℕ)) (seed : ℕ) (moves : List ℕ) (steps : List (List (List (List ℕ)))) (a b d : List ℕ) → names ≡ x.names → moves ≡ chosen (machine_of x) seed → length moves ≡ operations (machine_of x) → steps ≡ shown_steps x
    → b ≡ a ++ text_of (move_lines names seed (length moves) moves) → d ≡ b ++ text_of (last_of steps) → d ≡ a ++ text_of (order_lines x (Some seed))
order_text x names seed moves steps a b d n drawn many s p q =
    appends a b d (text_of (move_lines names seed (length moves) moves)) (text_of (last_of steps)) _ p q (sym (flat_map-append line (move_lines names seed (length moves) moves) (last_of steps)))
    ∙ (λ i. a ++ text_of (move_lines (n i) seed (many i) (drawn i) ++ last_of (s i)))

-- ---- a point that copies

module _ (x : Shown) (copied : is_copied x ≡ true) (names : List (List ℕ)) (pre : PlacementValue) (s : ScheduleValue) (n : names ≡ x.names) (p : pre ≡ (instance_at x).pre) (e : s ≡ x.point.schedule) where
  pub steps_copied : (run : List PlacementValue) → run ≡ run_of pre s → map (held_lines names) run ≡ shown_steps x
  steps_copied run ran = ap (map (held_lines names)) ran ∙ (λ i. map (held_lines (n i)) (run_of (p i) (e i))) ∙ sym (ap (steps_if x) copied)

  pub judged_copied : (t : TopologyValue) (post : PlacementValue) (v : Verdict) → t ≡ x.question.topology → post ≡ (instance_at x).post → v ≡ verdict_of t pre post s → (verdict_words names v ≡ shown_verdict x) × (says_solves v ≡ holds_as_shown x)
  judged_copied t post v u q judged =
      let same : v ≡ copied_verdict x = judged ∙ (λ i. verdict_of (u i) (p i) (q i) (e i)) in
      ((λ i. verdict_words (n i) (same i)) ∙ sym (ap (words_if x) copied), ap says_solves same ∙ sym (ap (holds_if x) copied))

-- ---- a point that adds up

same_on : {X : Type 0} (f g : ℕ → X) (n a top : ℕ) → a + n ≤ top → ((k : ℕ) → k < top → f k ≡ g k) → map f (range_with_len a n) ≡ map g (range_with_len a n)
same_on f g zero a top le e = refl
same_on f g (suc n) a top le e =
    ap (λ y. y ∷ map f (range_with_len (a + 1) n)) (e a (omega (arith, le)))
    ∙ ap (λ ys. g a ∷ ys) (same_on f g n (a + 1) top (omega (arith, le)) e)

-- the lines of the bags that a store keeps
module _ (x : Shown) (bags : Bags) where
  abbrev kept : StoreValue
  kept = stored (chunks_at x) (nodes_of x) bags

  same_word : (node : ℕ) → node < nodes_of x → (chunk : ℕ) → chunk < chunks_at x → decimal chunk ++ 61 ∷ counts_word (bags (chunk, node)) ≡ bag_word kept node chunk
  same_word node inside chunk low = ap (λ counts. decimal chunk ++ 61 ∷ digits_of counts) (sym (table_cell (λ pair. held_at_2 (bags pair)) (nodes_of x) (chunks_at x) chunk node [] low inside))

  same_words : (node : ℕ) → node < nodes_of x → bag_words x bags node ≡ keeper_words x.names kept node
  same_words node inside =
      ap (λ ws. name_at x.names node ∷ ws) (same_on (λ chunk. decimal chunk ++ 61 ∷ counts_word (bags (chunk, node))) (bag_word kept node) (chunks_at x) 0 (chunks_at x) (omega arith) (same_word node inside))

  bags_shown : bag_lines x bags ≡ store_lines x.names kept
  bags_shown = same_on (bag_words x bags) (keeper_words x.names kept) (nodes_of x) 0 (nodes_of x) (omega arith) same_words

module _ (x : Shown) (adds : is_copied x ≡ false) (names : List (List ℕ)) (n : names ≡ x.names) where
  pub steps_added : (run : List StoreValue) → run ≡ map (stored (chunks_at x) (nodes_of x)) (joined_run (contributions (nodes_of x)) x.point.schedule (adding_of x)) → map (store_lines names) run ≡ shown_steps x
  steps_added run ran =
      let bags = joined_run (contributions (nodes_of x)) x.point.schedule (adding_of x) in
      (λ i. map (store_lines (n i)) (ran i)) ∙ map-map (store_lines x.names) (stored (chunks_at x) (nodes_of x)) bags ∙ sym (λ i. map (λ b. bags_shown x b i) bags) ∙ sym (ap (steps_if x) adds)

  pub judged_added : (v : SumVerdict) → v ≡ summed_verdict x → (sum_words names v ≡ shown_verdict x) × (says_sums v ≡ holds_as_shown x)
  judged_added v same = ((λ i. sum_words (n i) (same i)) ∙ sym (ap (words_if x) adds), ap says_sums same ∙ sym (ap (holds_if x) adds))

pub adding_is : (x : Shown) → is_copied x ≡ false → adding_of x ≡ steps_that_add x.point.mark (length x.point.schedule.rounds)
adding_is x adds = ap (λ b. if b then 0 else steps_that_add x.point.mark (length x.point.schedule.rounds)) adds

-- ---- the whole text

ended : (verdict : List (List ℕ)) (steps more : List (List (List ℕ))) → text_of (steps ++ (verdict ∷ (more ++ (codes "end" ∷ []) ∷ []))) ≡ text_of (steps ++ (verdict ∷ more)) ++ codes "end\n"
ended verdict steps more = grind (arith, common_steps, flat_map-append)

pub text_is : (number : ℕ) (x : Shown) (order : Option ℕ) → line (codes "replay" ∷ decimal number ∷ []) ++ (text_of (body_lines x order) ++ codes "end\n") ≡ shown_text number x order
unfolding shown_text
text_is number x order =
    let more = if holds_as_shown x then order_lines x order else [] in
    ap (λ t. line (codes "replay" ∷ decimal number ∷ []) ++ t) (sym (ended (shown_verdict x) (numbered_steps 0 (shown_steps x)) more))

pub whole_text : (number n : ℕ) (x : Shown) (order : Option ℕ) (a b c d : List ℕ) → a ≡ [] → n ≡ number → b ≡ a ++ line (codes "replay" ∷ decimal n ∷ []) → c ≡ b ++ text_of (body_lines x order) → d ≡ c ++ codes "end\n" → d ≡ shown_text number x order
whole_text number n x order a b c d none same p q r =
    let head : b ≡ line (codes "replay" ∷ decimal number ∷ []) = p ∙ ap (λ t. t ++ line (codes "replay" ∷ decimal n ∷ [])) none ∙ ap (λ k. line (codes "replay" ∷ decimal k ∷ [])) same in
    appends b c d (text_of (body_lines x order)) (codes "end\n") _ q r refl ∙ ap (λ t. t ++ (text_of (body_lines x order) ++ codes "end\n")) head ∙ text_is number x order

-- ---- what the calls for a point give

-- what is made of its collective, its nodes and its chunk count
pub made_of : {X : Type 0} (make : Spec → ℕ → ℕ → X) (x : Shown) (made : X) (spec : Spec) (nodes c : ℕ) → spec ≡ x.question.spec → nodes ≡ nodes_of x → c ≡ x.point.candidate.c → made ≡ make spec nodes c → made ≡ make x.question.spec (nodes_of x) x.point.candidate.c
made_of make x made spec nodes c e n m is = is ∙ (λ i. make (e i) (n i) (m i))

-- what is demanded
abbrev pub demand_at : Shown → PlacementValue
demand_at x = spec_demand x.question.spec (nodes_of x) x.point.candidate.c
