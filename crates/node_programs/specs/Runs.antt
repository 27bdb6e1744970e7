-- Runs of the machine, in any order and in the order that a seed draws (this project's own).
use Rattle.std.specs.{Prelude.{◌≡◌, ℕ, zero, suc, ◌+◌, ◌*◌, ◌/◌, ◌%◌, ◌^◌, List, [], ◌∷◌, length, map, filter, sum, Option, None, Some, slice_get, unwrap_or}, List.range_with_len}
use Rattle.node_programs.specs.Machines.{State, event, is_enabled}

-- the nodes move in this order, each enabled in its turn
abbrev pub LegalRun : State → List ℕ → Type 0
LegalRun s [] = Unit {0}
LegalRun s (node ∷ nodes) = (next : State) × (event s node ≡ Some next) × LegalRun next nodes

-- the state that they lead to, if each is
abbrev pub machine_run : State → List ℕ → Option State
machine_run s [] = Some s
machine_run s (node ∷ nodes) = elim (event s node) [ None ↦ None | Some next ↦ machine_run next nodes ]

-- how many operations there are still to do
abbrev pub operations : State → ℕ
operations s = sum (map (λ ops. length ops) s.left)

abbrev pub enabled : State → List ℕ
enabled s = filter (is_enabled s) (range_with_len 0 (length s.left))

-- the next state of the generator, modulo 2^64
abbrev pub next_draw : ℕ → ℕ
next_draw x = (6364136223846793005 * x + 1442695040888963407) % 2 ^ 64

-- the node whose rank among those that are enabled is drawn, if there are any: the lowest 33 bits of the state count for nothing
abbrev pub ranked : List ℕ → ℕ → Option ℕ
ranked nodes x = slice_get nodes (x / 2 ^ 33 % length nodes)

-- the next so many nodes that the generator picks, until none is enabled
abbrev pub picked : ℕ → State → ℕ → List ℕ
picked zero s x = []
picked (suc n) s x = elim (ranked (enabled s) (next_draw x)) [ None ↦ [] | Some node ↦ node ∷ picked n (unwrap_or (event s node) s) (next_draw x) ]

-- the order that a seed draws: no run has more events than there are operations
abbrev pub chosen : State → ℕ → List ℕ
chosen s seed = picked (operations s) s seed
