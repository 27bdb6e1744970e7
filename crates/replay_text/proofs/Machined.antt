-- The machine of a point, and the events of its runs.
use Rattle.std.{proofs.{Common.{◌≡◌, ℕ, get_or, List, [], ◌∷◌, length, map, sym, ap, ◌∙◌, subst, All, Result, IfOk}, lemmas.List.Elements.All-from_recursion}, specs.List.AllByRecursion}
use Rattle.schedule.specs.Sends.{IsInRange, ScheduleValue}
use Rattle.node_programs.{specs.{declared.op.Op.Op, Below.AreBelow, Machines.{State, started}, Programs.programs_of, Runs.{chosen, operations}}, proofs.Everywhere.every_seed}
use Rattle.bag_runs.specs.Stores.{StoreValue, stored}
use Rattle.replay_text.specs.{Points.IsShowable, Showing.{Shown, adding_of, chunks_at, machine_of, nodes_of}, inner.Appended.start_bags}

-- the programs of as many nodes, and of the same schedule
pub below_same : {E : Type 0} (made : Result (List (List Op)) E) (m n : ℕ) (s t : ScheduleValue) → m ≡ n → s ≡ t
    → IfOk made (λ programs. (chunks : ℕ) → IsInRange chunks m s → AreBelow chunks m programs) → IfOk made (λ programs. (chunks : ℕ) → IsInRange chunks n t → AreBelow chunks n programs)
below_same made m n s t nodes schedule below =
    let same : (m, s) ≡ (n, t) = λ i. (nodes i, schedule i) in
    subst (λ (x : ℕ × ScheduleValue). IfOk made (λ programs. (chunks : ℕ) → IsInRange chunks x.0 x.1 → AreBelow chunks x.0 programs)) same below

-- they name what the start has
pub below_start : (x : Shown) (start : StoreValue) (programs : List (List Op)) → IsShowable x → start ≡ stored (chunks_at x) (nodes_of x) (start_bags x)
    → ((chunks : ℕ) → IsInRange chunks (nodes_of x) x.point.schedule → AreBelow chunks (nodes_of x) programs) → AreBelow start.chunks start.nodes programs
below_start x start programs shows is below = subst (λ (s : StoreValue). AreBelow s.chunks s.nodes programs) (sym is) (below (chunks_at x) shows.in_range)

-- the machine is that of the point
pub machine_is : (x : Shown) (start : StoreValue) (programs : List (List Op)) (m : State) → start ≡ stored (chunks_at x) (nodes_of x) (start_bags x) → programs ≡ programs_of (nodes_of x) x.point.schedule (adding_of x) → m ≡ started programs start → m ≡ machine_of x
machine_is x start programs m is of made = made ∙ (λ i. started (of i) (is i))

-- lists that are made of numbers, each as long as the others
all_as_long : {X : Type 0} (f : X → List ℕ) (g : ℕ → List ℕ) (n : ℕ) (xs : List X) (numbers : List ℕ) → map f xs ≡ map g numbers → ((number : ℕ) → length (g number) ≡ n) → AllByRecursion (λ x. length (f x) ≡ n) xs
all_as_long f g n [] numbers made each = tt
all_as_long f g n (x ∷ xs) [] made each = absurd (cc)
all_as_long f g n (x ∷ xs) (number ∷ numbers) made each =
    let first : f x ≡ g number = cc in
    let rest : map f xs ≡ map g numbers = cc in
    (ap length first ∙ each number, all_as_long f g n xs numbers rest each)

-- each run that a seed draws has an event for each operation
pub each_done : {X : Type 0} (moves : X → List ℕ) (x : Shown) (runs : List X) (seeds : List ℕ) → IsShowable x → map moves runs ≡ map (chosen (machine_of x)) seeds → All (λ run. length (moves run) ≡ operations (machine_of x)) runs
each_done moves x runs seeds shows drawn =
    All-from_recursion (λ run. length (moves run) ≡ operations (machine_of x)) runs
    (all_as_long moves (chosen (machine_of x)) (operations (machine_of x)) runs seeds drawn
    (λ seed. (every_seed (chunks_at x) (nodes_of x) (start_bags x) x.point.schedule (adding_of x) seed shows.schedule shows.in_range).events))

-- of lists that are made of one, the first
pub that_one : {X : Type 0} (f : X → List ℕ) (runs : List X) (one : List ℕ) (d : X) → map f runs ≡ one ∷ [] → f (get_or runs 0 d) ≡ one
that_one f [] one d made = absurd (cc)
that_one f (run ∷ runs) one d made = cc
