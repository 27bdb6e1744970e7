-- A run step by step.
use Rattle.std.proofs.{Common.{◌≡◌, ℕ, zero, suc, ◌+◌, ◌<◌, ◌≤◌, List, [], ◌∷◌, ◌++◌, length, get_or, map, refl, arith}, lemmas.List.FromFn.{map-range_with_len_more, length-map-range_with_len, get_or-map-range_with_len}}
use Rattle.std.specs.List.{range_with_len}
use Rattle.schedule.{specs.{Sends.{ScheduleValue, IsInRange}, Placed.{PlacementValue, IsPlacement}, Running.{after, step_of, run_of}}, proofs.Placing.placement-placed}

-- a run keeps the numbers of chunks and of nodes
pub chunks-after : (pre : PlacementValue) (s : ScheduleValue) (n : ℕ) → (after pre s n).chunks ≡ pre.chunks
chunks-after pre s zero = refl
chunks-after pre s (suc n) = chunks-after pre s n

pub nodes-after : (pre : PlacementValue) (s : ScheduleValue) (n : ℕ) → (after pre s n).nodes ≡ pre.nodes
nodes-after pre s zero = refl
nodes-after pre s (suc n) = nodes-after pre s n

-- so a schedule stays in range
pub range_after : (pre held : PlacementValue) (s : ScheduleValue) (n : ℕ) → IsInRange pre.chunks pre.nodes s → held ≡ after pre s n → IsInRange held.chunks held.nodes s
range_after pre held s n range is = rw (is, chunks-after pre s n, nodes-after pre s n) range

pub after_more : (pre held next : PlacementValue) (s : ScheduleValue) (n : ℕ) → held ≡ after pre s n → next ≡ step_of s.sends held (n + 1) → next ≡ after pre s (n + 1)
after_more pre held next s n is moved = grind arith

pub run_more : (pre held : PlacementValue) (run : List PlacementValue) (s : ScheduleValue) (n : ℕ) → held ≡ after pre s n → run ≡ map (after pre s) (range_with_len 0 n) → run ++ held ∷ [] ≡ map (after pre s) (range_with_len 0 (n + 1))
run_more pre held run s n is so_far = grind (arith, map-range_with_len_more (after pre s) 0 n n)

-- the last placement of a run
pub run_last_inside : (pre : PlacementValue) (s : ScheduleValue) (run : List PlacementValue) (rounds : List ℕ) → rounds ≡ s.rounds → run ≡ run_of pre s → length rounds < length run
run_last_inside pre s run rounds is all = grind (arith, length-map-range_with_len)

-- it is what is held after the last step, and has the size of the first
pub run_last : (pre last : PlacementValue) (s : ScheduleValue) (run : List PlacementValue) (rounds : List ℕ) → rounds ≡ s.rounds → run ≡ run_of pre s → last ≡ get_or run (length rounds) last
    → (last ≡ after pre s (length s.rounds)) × (last.chunks ≡ pre.chunks) × (last.nodes ≡ pre.nodes)
run_last pre last s run rounds is all read = grind (arith, get_or-map-range_with_len, chunks-after, nodes-after)

-- a run goes from placement to placement
pub placement-after : (pre : PlacementValue) (s : ScheduleValue) (n : ℕ) → IsPlacement pre → IsPlacement (after pre s n)
placement-after pre s zero is = is
placement-after pre s (suc n) is = grind (arith, placement-placed)

pub run_at : (pre last : PlacementValue) (s : ScheduleValue) (n : ℕ) → n ≤ length s.rounds → get_or (run_of pre s) n last ≡ after pre s n
run_at pre last s n small = get_or-map-range_with_len (after pre s) 0 (length s.rounds + 1) n n last (omega arith) (omega arith)
