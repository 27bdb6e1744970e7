-- Runs of a machine, one event more.
use Rattle.std.{proofs.{Common.{◌≡◌, ℕ, zero, suc, ◌+◌, ◌-◌, ◌<◌, true, List, [], ◌∷◌, ◌++◌, Option, Some, None, refl, sym, ap, ◌∙◌, append_assoc, arith, is_some}, lemmas.List.append-nil}, specs.Prelude.unwrap_or}
use Rattle.node_programs.{specs.{Machines.{State, event, is_enabled}, Runs.{enabled, next_draw, picked, ranked, machine_run}}, proofs.Events.{each_run, run_by}}

-- ---- what an event gives

given : (after : Option State) (s : State) → is_some after ≡ true → after ≡ Some (unwrap_or after s)
given None s is = absurd cc
given (Some next) s is = refl

pub event_some : (s next : State) (node : ℕ) → is_enabled s node ≡ true → next ≡ unwrap_or (event s node) s → event s node ≡ Some next
event_some s next node enabled is = given (event s node) s enabled ∙ ap (λ x. Some x) (sym is)

-- ---- runs

pub run_more : (order : List ℕ) (s now next : State) (node : ℕ) → machine_run s order ≡ Some now → event now node ≡ Some next → machine_run s (order ++ node ∷ []) ≡ Some next
run_more order s now next node ran is =
    each_run (λ a o b. event b node ≡ Some next → machine_run a (o ++ node ∷ []) ≡ Some next) (λ a last. ap (λ after. run_by after []) last) (λ a onward b v o first later last. ap (λ after. run_by after (o ++ node ∷ [])) first ∙ later last) order s now ran is

-- ---- what the generator picks

-- what comes of one pick
abbrev picked_by : ℕ → State → ℕ → Option ℕ → List ℕ
picked_by n s x first = elim first [ None ↦ [] | Some node ↦ node ∷ picked n (unwrap_or (event s node) s) x ]

pub picked_more : (n : ℕ) (s next : State) (x node : ℕ) → Some node ≡ ranked (enabled s) (next_draw x) → event s node ≡ Some next → picked (suc n) s x ≡ node ∷ picked n next (next_draw x)
picked_more n s next x node drawn is = ap (picked_by n s (next_draw x)) (sym drawn) ∙ ap (λ after. node ∷ picked n (unwrap_or after s) (next_draw x)) is

pub picked_none : (n : ℕ) (s : State) (x : ℕ) → None ≡ ranked (enabled s) (next_draw x) → picked n s x ≡ []
picked_none zero s x none = refl
picked_none (suc n) s x none = ap (picked_by n s (next_draw x)) (sym none)

-- what was picked so far, and what is still to be picked
abbrev pub IsPicked : ℕ → State → ℕ → List ℕ → ℕ → State → ℕ → Type 0
IsPicked count first seed moves left s x = moves ++ picked left s x ≡ picked count first seed

pub picked_on : (count : ℕ) (first : State) (seed : ℕ) (moves new : List ℕ) (turn : ℕ) (s next : State) (x node : ℕ) → turn < count → IsPicked count first seed moves (count - turn) s x
    → Some node ≡ ranked (enabled s) (next_draw x) → event s node ≡ Some next → new ≡ moves ++ node ∷ [] → IsPicked count first seed new (count - (turn + 1)) next (next_draw x)
picked_on count first seed moves new turn s next x node low so_far drawn is more =
    let left : count - turn ≡ suc (count - (turn + 1)) = omega arith in
    ap (λ ms. ms ++ picked (count - (turn + 1)) next (next_draw x)) more
    ∙ append_assoc moves (node ∷ []) (picked (count - (turn + 1)) next (next_draw x))
    ∙ ap (λ ms. moves ++ ms) (sym (ap (λ n. picked n s x) left ∙ picked_more (count - (turn + 1)) s next x node drawn is))
    ∙ so_far

pub picked_ends : (count : ℕ) (first : State) (seed : ℕ) (moves : List ℕ) (left : ℕ) (s : State) (x : ℕ) → IsPicked count first seed moves left s x → picked left s x ≡ [] → moves ≡ picked count first seed
picked_ends count first seed moves left s x so_far none = sym (append-nil moves) ∙ ap (λ ms. moves ++ ms) (sym none) ∙ so_far
