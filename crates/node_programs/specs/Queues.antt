-- How the machine keeps queues: with room for all that is still to be sent (this project's own).
use Rattle.std.specs.{Prelude.{◌≡◌, ◌==◌, ◌&&◌, ℕ, ◌+◌, ◌*◌, ◌<◌, ◌≤◌, ◌-◌, Bool, false, if◌then◌else◌, List, [], ◌∷◌, ◌++◌, length, map, drop, slice_index, slice_index_or, slice_set}, List.{flat_map, range_with_len}}
use Rattle.node_programs.specs.{declared.{op.Op.{Op, TheVariants.{Send, Take}}, message.Message.Message as Parcel}, Machines.Message, Below.AreBelow}
use Rattle.bag_runs.specs.Kept.{counted}

-- what is in a queue, and how many messages more it has room for
pub record QueueValue : Type 0 where
  pub messages : List Parcel
  pub room : ℕ

abbrev pub empty_queue : ℕ → QueueValue
empty_queue room = record { messages = []; room = room }

abbrev pub no_queue : QueueValue
no_queue = empty_queue 0

-- a message with the counts of so many nodes
abbrev pub message_in : ℕ → Parcel → Message
message_in nodes m = record { chunk = m.chunk; step = m.step; bag = counted nodes m.bag }

abbrev pub messages_in : ℕ → QueueValue → List Message
messages_in nodes q = map (message_in nodes) q.messages

-- with one message more
abbrev pub with_message : QueueValue → Parcel → QueueValue
with_message q m = record { messages = q.messages ++ m ∷ []; room = q.room - 1 }

-- without its first message
abbrev pub without_first : QueueValue → QueueValue
without_first q = record { messages = drop 1 q.messages; room = q.room + 1 }

abbrev pub is_head : ℕ → ℕ → List Parcel → Bool
is_head chunk step [] = false
is_head chunk step (m ∷ ms) = m.chunk == chunk && m.step == step

-- how many of the operations send to a node
abbrev pub sends_to : ℕ → List Op → ℕ
sends_to node [] = 0
sends_to node (Send chunk to step ∷ ops) = if to == node then sends_to node ops + 1 else sends_to node ops
sends_to node (Take chunk from step how ∷ ops) = sends_to node ops

-- counts by node, with an operation counted for the node that it sends to
abbrev pub with_send : List ℕ → Op → List ℕ
with_send counts (Send chunk to step) = slice_set counts to (slice_index counts to + 1)
with_send counts (Take chunk from step how) = counts

abbrev pub queue_of : List QueueValue → ℕ → ℕ → ℕ → QueueValue
queue_of queues nodes from to = slice_index_or queues (from * nodes + to) no_queue

-- a program for each node and a queue for each pair, chunks and nodes in range, and in each queue room for what its sender still sends
pub record IsMachine (chunks nodes : ℕ) (programs : List (List Op)) (queues : List QueueValue) : Type 0 where
  pub nodes_are : length programs ≡ nodes
  pub pairs : length queues ≡ nodes * nodes
  pub in_range : AreBelow chunks nodes programs
  pub room : (from to : ℕ) → from < nodes → to < nodes → sends_to to (slice_index_or programs from []) ≤ (queue_of queues nodes from to).room

-- the queues from a node of this program to each of so many nodes, before any event
abbrev pub queues_from : ℕ → List Op → List QueueValue
queues_from nodes ops = map (λ to. empty_queue (sends_to to ops)) (range_with_len 0 nodes)

abbrev pub new_queues : ℕ → List (List Op) → List QueueValue
new_queues nodes programs = flat_map (queues_from nodes) programs
