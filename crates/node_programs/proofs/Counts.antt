-- How many operations send to each node, counted one after the other.
use Rattle.std.proofs.{Common.{◌≡◌, ℕ, ◌+◌, ◌<◌, ◌≤◌, List, [], ◌∷◌, ◌++◌, length, map, get_or, take, replicate, arith}, lemmas.{Bool.{cases_lt, eq-eqb}, Simd.map-map}}
use Rattle.std.{proofs.lemmas.List.{length-replicate, length-take, get_or-replicate, get_or_past, take_more, FromFn.{fill_by_all, get_or-map-range_with_len, length-map-range_with_len}}, specs.List.range_with_len}
use Rattle.node_programs.{specs.{declared.op.Op.{Op, TheVariants.{Send, Take}}, Queues.{empty_queue, queues_from, sends_to, with_send}}, proofs.Each.{flipped, set_each}}
use Rattle.bag_runs.proofs.Counting.{map_alike}

-- so many sends to each of so many nodes
abbrev pub send_counts : ℕ → List Op → List ℕ
send_counts nodes ops = map (λ node. sends_to node ops) (range_with_len 0 nodes)

pub counts_none : (nodes : ℕ) → replicate nodes 0 ≡ send_counts nodes []
counts_none nodes = fill_by_all (λ node. 0) (replicate nodes 0) nodes 0 (length-replicate nodes 0) (λ k low. get_or-replicate nodes k 0 0 low)

sends_more : (node : ℕ) (ops : List Op) (op : Op) → sends_to node (ops ++ op ∷ []) ≡ sends_to node ops + sends_to node (op ∷ [])
sends_more node [] op = omega arith
sends_more node (Take chunk from step how ∷ ops) op = sends_more node ops op
sends_more node (Send chunk to step ∷ ops) op = grind (arith, sends_more node ops op)

sends_few : (node : ℕ) (ops : List Op) → sends_to node ops ≤ length ops
sends_few node [] = omega arith
sends_few node (Take chunk from step how ∷ ops) = omega (arith, sends_few node ops)
sends_few node (Send chunk to step ∷ ops) = grind (arith, sends_few node ops)

count_at : (nodes : ℕ) (ops : List Op) (node : ℕ) → node < nodes → get_or (send_counts nodes ops) node 0 ≡ sends_to node ops
count_at nodes ops node low = get_or-map-range_with_len (λ k. sends_to k ops) 0 nodes node node 0 low (omega arith)

-- no count is above the number of operations
pub counts_few : (nodes i : ℕ) (ops : List Op) (node : ℕ) → get_or (send_counts nodes (take i ops)) node 0 ≤ i
counts_few nodes i ops node = grind (arith, cases_lt, count_at, sends_few, length-take, get_or_past, length-map-range_with_len)

counts_pushed : (nodes : ℕ) (ops : List Op) (op : Op) → with_send (send_counts nodes ops) op ≡ send_counts nodes (ops ++ op ∷ [])
counts_pushed nodes ops (Take chunk from step how) = grind (arith, map_alike, sends_more)
counts_pushed nodes ops (Send chunk to step) = grind (arith, set_each, flipped, sends_more, eq-eqb, count_at)

-- one operation more is counted
pub counts_more : (nodes i : ℕ) (ops : List Op) (d : Op) (old new : List ℕ) → i < length ops → old ≡ send_counts nodes (take i ops) → new ≡ with_send old (get_or ops i d) → new ≡ send_counts nodes (take (i + 1) ops)
counts_more nodes i ops d old new inside so_far more = grind (arith, counts_pushed, take_more)

pub queues_counted : (nodes : ℕ) (ops : List Op) → map empty_queue (send_counts nodes ops) ≡ queues_from nodes ops
queues_counted nodes ops = map-map empty_queue (λ node. sends_to node ops) (range_with_len 0 nodes)
