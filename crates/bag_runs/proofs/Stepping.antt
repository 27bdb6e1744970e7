-- The stores of a run step by step.
use Rattle.std.{proofs.{Common.{◌≡◌, ℕ, ◌+◌, List, [], ◌∷◌, ◌++◌, length, map, refl, sym, ◌∙◌, arith}, lemmas.{List.FromFn.map-range_with_len_more, Simd.map-map}}, specs.List.range_with_len}
use Rattle.schedule.specs.{Bags.Bags, Sends.{IsInRange, ScheduleValue}, JoinedRuns.{joined_after, joined_run, joined_step}}
use Rattle.bag_runs.specs.Stores.{StoreValue, stored}

-- the store after so many steps
abbrev pub store_after : ℕ → ℕ → Bags → ScheduleValue → ℕ → ℕ → StoreValue
store_after chunks nodes bags s adding n = stored chunks nodes (joined_after bags s adding n)

-- the store that is held is that after so many steps, from any bags that the start holds
pub record IsAfter (start : StoreValue) (s : ScheduleValue) (adding : ℕ) (held : StoreValue) (n : ℕ) : Type 0 where
  pub chunks : held.chunks ≡ start.chunks
  pub nodes : held.nodes ≡ start.nodes
  pub held_is : (bags : Bags) → start ≡ stored start.chunks start.nodes bags → held ≡ store_after start.chunks start.nodes bags s adding n

-- and these are the stores before
pub record HasCome (start : StoreValue) (s : ScheduleValue) (adding : ℕ) (held : StoreValue) (run : List StoreValue) (n : ℕ) : Type 0 where
  pub after : IsAfter start s adding held n
  pub run_is : (bags : Bags) → start ≡ stored start.chunks start.nodes bags → run ≡ map (store_after start.chunks start.nodes bags s adding) (range_with_len 0 n)

-- the step after so many
abbrev pub IsNext : ScheduleValue → ℕ → ℕ → StoreValue → StoreValue → Type 0
IsNext s adding step before after = (bags : Bags) → before ≡ stored before.chunks before.nodes bags → after ≡ stored before.chunks before.nodes (joined_step s.sends adding bags step)

module _ (start : StoreValue) (s : ScheduleValue) (adding : ℕ) where
  pub after_none : (held : StoreValue) → held ≡ start → IsAfter start s adding held 0
  after_none held is = grind arith

  pub come_none : (held : StoreValue) → held ≡ start → HasCome start s adding held [] 0
  come_none held is = record { after = after_none held is; run_is = λ bags from. refl }

  module _ (held next : StoreValue) (n : ℕ) (after : IsAfter start s adding held n) where
    pub range_kept : IsInRange start.chunks start.nodes s → IsInRange held.chunks held.nodes s
    range_kept range = rw (after.chunks, after.nodes) range

    pub after_more : IsNext s adding (n + 1) held next → next.chunks ≡ held.chunks → next.nodes ≡ held.nodes → IsAfter start s adding next (n + 1)
    after_more is_next chunks nodes = grind arith

  module _ (held : StoreValue) (run : List StoreValue) (n : ℕ) (come : HasCome start s adding held run n) where
    pub run_pushed : (bags : Bags) → start ≡ stored start.chunks start.nodes bags → run ++ held ∷ [] ≡ map (store_after start.chunks start.nodes bags s adding) (range_with_len 0 (n + 1))
    run_pushed bags from =
        (λ i. come.run_is bags from i ++ come.after.held_is bags from i ∷ [])
        ∙ sym (map-range_with_len_more (store_after start.chunks start.nodes bags s adding) 0 n n (omega arith))

    pub come_more : (next : StoreValue) (new : List StoreValue) → IsNext s adding (n + 1) held next → next.chunks ≡ held.chunks → next.nodes ≡ held.nodes → new ≡ run ++ held ∷ [] → HasCome start s adding next new (n + 1)
    come_more next new is_next chunks nodes pushed = grind (arith, after_more, run_pushed)

    -- the whole run
    pub run_whole : (new : List StoreValue) → n ≡ length s.rounds → new ≡ run ++ held ∷ [] → (bags : Bags) → start ≡ stored start.chunks start.nodes bags → new ≡ map (stored start.chunks start.nodes) (joined_run bags s adding)
    run_whole new all pushed bags from = grind (arith, run_pushed bags from, map-map)
