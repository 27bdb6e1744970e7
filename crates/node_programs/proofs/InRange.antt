-- The programs of a schedule in range name chunks and nodes in range.
use Rattle.std.{proofs.{Common.{◌≡◌, ℕ, true, ◌&&◌, eqb, List, [], ◌∷◌, length, map, filter}, lemmas.List.Elements.recursion_from_All}, specs.List.{AllByRecursion, flat_map, range_with_len}}
use Rattle.list_laws.proofs.Each.{each_map, every_map}
use Rattle.schedule.{specs.Sends.{IsInRange, ScheduleValue, is_hop_below}, proofs.{First.{each_filter, each_weaker, each_append}, Joining.{IsHopBelow, hop_below}}}
use Rattle.node_programs.specs.{Programs.{program_of, programs_of, ops_at}, Below.{AreBelow, IsOpBelow}, inner.Pushed.{send_of, take_of}}

pub each_flat : {X Y : Type 0} (P : X → Type 0) (f : Y → List X) → ((y : Y) → AllByRecursion P (f y)) → (ys : List Y) → AllByRecursion P (flat_map f ys)
each_flat P f every [] = tt
each_flat P f every (y ∷ ys) = each_append P (f y) (flat_map f ys) (every y) (each_flat P f every ys)

pub programs_below : (nodes : ℕ) (s : ScheduleValue) (adding chunks : ℕ) → IsInRange chunks nodes s → AreBelow chunks nodes (programs_of nodes s adding)
programs_below nodes s adding chunks range = every_map (AllByRecursion (IsOpBelow chunks nodes)) (program_of s adding) program (range_with_len 0 nodes)
  where
    below : AllByRecursion (IsHopBelow chunks nodes) s.sends
    below = each_weaker (λ h. is_hop_below chunks nodes h ≡ true) (IsHopBelow chunks nodes) (hop_below chunks nodes) s.sends (recursion_from_All (λ h. is_hop_below chunks nodes h ≡ true) s.sends range)

    sends : (node step : ℕ) → AllByRecursion (IsOpBelow chunks nodes) (map send_of (filter (λ h. eqb h.step step && eqb h.from node) s.sends))
    sends node step =
        each_map (IsHopBelow chunks nodes) (IsOpBelow chunks nodes) send_of (λ h is. (is.chunk, is.to)) (filter (λ h. eqb h.step step && eqb h.from node) s.sends)
        (each_filter (IsHopBelow chunks nodes) (λ h. eqb h.step step && eqb h.from node) s.sends below)

    takes : (node step : ℕ) → AllByRecursion (IsOpBelow chunks nodes) (map (take_of adding) (filter (λ h. eqb h.step step && eqb h.to node) s.sends))
    takes node step =
        each_map (IsHopBelow chunks nodes) (IsOpBelow chunks nodes) (take_of adding) (λ h is. (is.chunk, is.from)) (filter (λ h. eqb h.step step && eqb h.to node) s.sends)
        (each_filter (IsHopBelow chunks nodes) (λ h. eqb h.step step && eqb h.to node) s.sends below)

    program : (node : ℕ) → AllByRecursion (IsOpBelow chunks nodes) (program_of s adding node)
    program node =
        each_flat (IsOpBelow chunks nodes) (ops_at s.sends adding node)
        (λ step. each_append (IsOpBelow chunks nodes) (map send_of (filter (λ h. eqb h.step step && eqb h.from node) s.sends)) (map (take_of adding) (filter (λ h. eqb h.step step && eqb h.to node) s.sends)) (sends node step) (takes node step))
        (range_with_len 1 (length s.rounds))
