-- A trail as its fields hold it, and as a literal comes to it.
use Rattle.std.proofs.{Common.{◌≡◌, ◌≢◌, ℕ, ◌<◌, ◌≤◌, List, [], ◌∷◌, ◌++◌, Option, map, length, get_or, set, subst, arith, Contains}, lemmas.List.length-map}
use Rattle.cnf_formula.specs.Literals.{LitValue, negation, code_of}
use Rattle.trail_core.specs.{Assigned.IsOpen, Trails.{StepValue, TrailValue, lits_of, step_of, IsAssigned, IsLeveled}, inner.Packed.{levels_of, reason_of, reasons_of}, declared.trail.Assignment.Assignment}
use Rattle.trail_core.proofs.{Trails.{lits-steps, few_limits, steps_push}, Packed.reasons_set, Valued.{code_of_within, var_new, room_for}}

abbrev pub trail_of : ℕ → List Assignment → List LitValue → List ℕ → TrailValue
trail_of vars assignments lits limits = record { vars = vars; steps = map (step_of (reasons_of assignments)) lits; limits = limits }

pub record IsSeen (vars : ℕ) (lits : List LitValue) (limits : List ℕ) (t : TrailValue) : Type 0 where
  pub vars_same : vars ≡ t.vars
  pub lits_same : lits_of t.steps ≡ lits
  pub limits_same : limits ≡ t.limits
  pub count : length lits ≡ length t.steps

pub seen : (vars : ℕ) (assignments : List Assignment) (lits : List LitValue) (limits : List ℕ) (t : TrailValue) → trail_of vars assignments lits limits ≡ t → IsSeen vars lits limits t
seen vars assignments lits limits t v = grind (arith, lits-steps (reasons_of assignments) lits, length-map lits (step_of (reasons_of assignments)))

-- an open literal can come to the trail
pub record CanPush (vars : ℕ) (values : List ℕ) (lits : List LitValue) (limits : List ℕ) (x : LitValue) : Type 0 where
  pub within : x.var ≤ vars
  pub is_open : IsOpen lits x
  pub new : (k : ℕ) (d : LitValue) → k < length lits → (get_or lits k d).var ≢ x.var
  pub here : code_of x < length values
  pub there : code_of (negation x) < length values
  pub room : length lits < vars
  pub few : length limits ≤ length lits

pub can_push : (vars : ℕ) (values : List ℕ) (assignments : List Assignment) (lits : List LitValue) (limits : List ℕ) (t : TrailValue) (x : LitValue) → IsAssigned vars values lits → IsLeveled vars (levels_of assignments) lits limits → trail_of vars assignments lits limits ≡ t → 0 < x.var → x.var ≤ t.vars → IsOpen (lits_of t.steps) x → CanPush vars values lits limits x
can_push vars values assignments lits limits t x a v e some below o =
    let s = seen vars assignments lits limits t e in
    let w : x.var ≤ vars = omega (arith, s.vars_same, below) in
    let op : IsOpen lits x = subst (λ xs. IsOpen xs x) s.lits_same o in
    let codes = code_of_within vars values lits x a some w in
    record { within = w; is_open = op; new = var_new lits x op; here = codes.0; there = codes.1; room = room_for vars values lits x a some w op; few = few_limits vars (levels_of assignments) lits limits v }

-- and comes there with its reason
pub pushed : (assignments : List Assignment) (lits : List LitValue) (x : LitValue) (a : Assignment) (r : Option ℕ) (steps : List StepValue) → map (step_of (reasons_of assignments)) lits ≡ steps → x.var < length assignments → ((k : ℕ) (d : LitValue) → k < length lits → (get_or lits k d).var ≢ x.var) → reason_of a ≡ r
    → map (step_of (reasons_of (set assignments x.var a))) (lits ++ x ∷ []) ≡ steps ++ record { lit = x; reason = r } ∷ []
pushed assignments lits x a r steps v w new e = grind (arith, reasons_set, steps_push, length-map)

-- a literal of the trail is of its variables
pub stands_within : (vars : ℕ) (values : List ℕ) (lits : List LitValue) (limits : List ℕ) (t : TrailValue) (x : LitValue) → IsAssigned vars values lits → IsSeen vars lits limits t → Contains (lits_of t.steps) x → Contains lits x × (x.var ≤ vars)
stands_within vars values lits limits t x a s c = let h = subst (λ xs. Contains xs x) s.lits_same c in (h, subst (λ l. l.var ≤ vars) h.2 (a.within h.0 x h.1))
