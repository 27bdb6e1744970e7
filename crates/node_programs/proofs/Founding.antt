-- The machine before any event.
use Rattle.std.proofs.Common.{◌≡◌, ℕ, zero, suc, ◌*◌, ◌<◌, List, [], ◌∷◌, length, map, get_or, replicate, zero-mul, refl, sym, ap, arith}
use Rattle.std.proofs.lemmas.List.{get_or_append_left, get_or-append-add, length-append, map-append, replicate-append-replicate, FromFn.{get_or-map-range_with_len, length-map-range_with_len, length-range_with_len}}
use Rattle.node_programs.{specs.{declared.op.Op.Op, Machines.started, Below.AreBelow, Queues.{IsMachine, empty_queue, messages_in, new_queues, queue_of, queues_from, sends_to}}, proofs.Firing.state_of}
use Rattle.bag_runs.specs.Stores.{StoreValue}

module _ (nodes : ℕ) where
  row_length : (ops : List Op) → length (queues_from nodes ops) ≡ nodes
  row_length ops = length-map-range_with_len (λ to. empty_queue (sends_to to ops)) 0 nodes

  queues_length : (programs : List (List Op)) → length (new_queues nodes programs) ≡ length programs * nodes
  queues_length [] = omega arith
  queues_length (ops ∷ programs) = grind (arith, length-append, row_length, queues_length programs)

  queue_new : (programs : List (List Op)) (from to : ℕ) → from < length programs → to < nodes → queue_of (new_queues nodes programs) nodes from to ≡ empty_queue (sends_to to (get_or programs from []))
  queue_new [] from to low high = absurd (omega arith)
  queue_new (ops ∷ programs) zero to low high = grind (arith, row_length, get_or_append_left, get_or-map-range_with_len)
  queue_new (ops ∷ programs) (suc from) to low high = grind (arith, row_length, get_or-append-add, queue_new programs from to (omega (arith, low)) high)

  none_in_row : (ops : List Op) (ks : List ℕ) → map (messages_in nodes) (map (λ to. empty_queue (sends_to to ops)) ks) ≡ replicate (length ks) []
  none_in_row ops [] = refl
  none_in_row ops (k ∷ ks) = ap (λ qs. [] ∷ qs) (none_in_row ops ks)

pub machine_new : (chunks nodes : ℕ) (programs : List (List Op)) → length programs ≡ nodes → AreBelow chunks nodes programs → IsMachine chunks nodes programs (new_queues nodes programs)
machine_new chunks nodes programs same below = grind (arith, queues_length, queue_new)

queues_none : (nodes : ℕ) (programs : List (List Op)) → map (messages_in nodes) (new_queues nodes programs) ≡ replicate (length programs * nodes) []
queues_none nodes [] = sym (ap (λ k. replicate k []) (zero-mul nodes))
queues_none nodes (ops ∷ programs) = grind (arith, map-append, none_in_row, length-range_with_len, replicate-append-replicate, queues_none nodes programs)

pub state_new : (programs : List (List Op)) (start : StoreValue) → length programs ≡ start.nodes → state_of programs start (new_queues start.nodes programs) ≡ started programs start
state_new programs start same = grind (arith, queues_none)
