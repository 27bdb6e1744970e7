-- The first clash, step by step.
use Rattle.std.proofs.{Common.{◌≡◌, ℕ, ◌+◌, ◌-◌, ◌<◌, ◌≤◌, Bool, false, ◌&&◌, leb, List, [], ◌∷◌, length, map, Option, None, refl, sym, ap, arith}, lemmas.{Bool.{le-ltb, lt-ltb}, List.Folds.find-append}}
use Rattle.std.specs.{List.{AllByRecursion, find, flat_map, range_with_len}, Option.{option_map, option_or}}
use Rattle.list_laws.proofs.Tests.{find-map}
use Rattle.schedule.{specs.{Sends.ScheduleValue, Placed.{PlacementValue, all_pairs, holds}, JoinedRuns.{first_clash, is_clash}}, proofs.{First.{each_among, none_found}, Grids.{range_more, range_none}, Placing.{all_below, holds-placed}}}
use Rattle.allreduce_join.proofs.Meeting.{arrivals, met_by}

-- the first clash of a step
abbrev pub clash_in : ℕ → ℕ → ScheduleValue → ℕ → ℕ → Option (ℕ × ℕ)
clash_in chunks nodes s adding step = find (λ pair. is_clash s adding (step, pair.0, pair.1)) (all_pairs chunks nodes)

-- the first of the steps behind so many
abbrev pub clash_from : ℕ → ℕ → ScheduleValue → ℕ → ℕ → Option (ℕ × ℕ × ℕ)
clash_from chunks nodes s adding index = find (is_clash s adding) (flat_map (λ step. map (λ pair. (step, pair.0, pair.1)) (all_pairs chunks nodes)) (range_with_len (index + 1) (length s.rounds + 1 - (index + 1))))

module _ (chunks nodes : ℕ) (s : ScheduleValue) (adding : ℕ) where
  -- what is said of a step is said of those from it on, if it is the first
  pub clash_on : (index : ℕ) (first : Option (ℕ × ℕ)) → index < length s.rounds → first ≡ clash_in chunks nodes s adding (index + 1) → clash_from chunks nodes s adding index ≡ option_or (option_map (λ (pair : ℕ × ℕ). (index + 1, pair.0, pair.1)) first) (clash_from chunks nodes s adding (index + 1))
  clash_on index first below is = grind (arith, range_more, find-append, find-map)

  pub clash_start : clash_from chunks nodes s adding 0 ≡ first_clash chunks nodes s adding
  clash_start = grind arith

  pub clash_past : (index : ℕ) → length s.rounds ≤ index → clash_from chunks nodes s adding index ≡ None
  clash_past index past = ap (λ steps. find (is_clash s adding) (flat_map (λ step. map (λ pair. (step, pair.0, pair.1)) (all_pairs chunks nodes)) steps)) (range_none (index + 1) (length s.rounds + 1) (omega (arith, past)))

-- ---- one step

-- a step that adds has none
pub clash_adding : (chunks nodes : ℕ) (s : ScheduleValue) (adding step : ℕ) → step ≤ adding → None ≡ clash_in chunks nodes s adding step
clash_adding chunks nodes s adding step small =
    sym (none_found (λ pair. is_clash s adding (step, pair.0, pair.1)) (all_pairs chunks nodes) (each_among (λ pair. is_clash s adding (step, pair.0, pair.1) ≡ false) (all_pairs chunks nodes) (λ pair among. ap (λ b. b && leb 2 (arrivals step (pair.0, pair.1) s.sends)) (le-ltb adding step small))))

find_alike : {X : Type 0} (P : X → Type 0) (p q : X → Bool) → ((x : X) → P x → p x ≡ q x) → (xs : List X) → AllByRecursion P xs → find p xs ≡ find q xs
find_alike P p q same [] each = refl
find_alike P p q same (x ∷ xs) each = grind (arith, same x each.0, find_alike P p q same xs each.1)

-- in one that copies it is the first pair that is met twice
pub clash_copying : (chunks nodes : ℕ) (s : ScheduleValue) (adding step : ℕ) (twice : PlacementValue) → adding < step → twice ≡ met_by 2 chunks nodes step s.sends → find (holds twice) (all_pairs chunks twice.nodes) ≡ clash_in chunks nodes s adding step
clash_copying chunks nodes s adding step twice past is = grind (arith, find_alike, met_by, holds-placed, arrivals, lt-ltb, all_below)
