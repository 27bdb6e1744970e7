-- What a search has found when it has passed some candidates, in its order (Cai et al., PPoPP 2021, Pareto-optimal schedules).
use Rattle.std.specs.Prelude.{◌≡◌, ◌↔◌, ◌-◌, ◌<◌, ◌⊎◌, Bool, true, false, ℕ, List, [], ◌∷◌, ◌++◌, Some, length, get_or, slice_get, map, filter, All, AllPairs, Contains}
use Rattle.schedule.specs.Sends.{ScheduleValue}
use Rattle.candidate_order.specs.{declared.{candidate.Candidate.Candidate, mark.Mark.{Mark, TheVariants.{Optimal, Open}}}, Costs.{NoWorse, Better, Before}}
use Rattle.candidate_order.specs.{declared.outcome.Outcome.Outcome, Frontiers.{QuestionValue, PointValue, FrontierValue, solved, given_up, IsWithin, IsSolvable}}
use Rattle.candidate_order.specs.declared.outcome.Outcome.TheVariants as outcome
use Rattle.engine_rules.specs.{declared.settled.Settled.Settled, Outcomes.{RecordValue, SolvesTightly}}
use Rattle.engine_rules.specs.declared.settled.Settled.TheVariants as settled

-- the candidates within the limits that have fewer steps
abbrev pub HasFewerSteps : QuestionValue → ℕ → Candidate → Type 0
HasFewerSteps q steps x = IsWithin q x × (x.s < steps)

-- those that come before one of them, and those up to it
abbrev pub IsBefore : QuestionValue → Candidate → Candidate → Type 0
IsBefore q here x = IsWithin q x × Before x here

abbrev pub IsUpTo : QuestionValue → Candidate → Candidate → Type 0
IsUpTo q here x = IsBefore q here x ⊎ (x ≡ here)

-- the list has the candidates of a step, in their order
pub record IsStep (q : QuestionValue) (step : ℕ) (listed : List Candidate) : Type 0 where
  pub members : (x : Candidate) → Contains listed x ↔ ((x.s ≡ step) × IsWithin q x)
  pub ascends : AllPairs Before listed

-- those of fewer steps, and the first so many of these
abbrev pub IsThrough : QuestionValue → ℕ → List Candidate → ℕ → Candidate → Type 0
IsThrough q steps these i x = HasFewerSteps q steps x ⊎ ((j : ℕ) × (j < i) × (j < length these) × (get_or these j x ≡ x))

-- the two kinds are one
abbrev pub is_same : Settled → Settled → Bool
is_same settled.Solved settled.Solved = true
is_same settled.Refuted settled.Refuted = true
is_same settled.Unknown settled.Unknown = true
is_same a b = false

-- the candidates of the record that were settled so
abbrev pub of_kind : Settled → RecordValue → List Candidate
of_kind kind entries = map (λ entry. entry.0) (filter (λ entry. is_same kind entry.1) entries)

-- the candidate is in the record
abbrev pub IsSettled : RecordValue → Candidate → Type 0
IsSettled entries x = (kind : Settled) × Contains entries (x, kind)

-- no earlier point of the record is no worse
abbrev pub IsWorth : RecordValue → Candidate → Type 0
IsWorth entries x = (p : Candidate) → Contains entries (p, settled.Solved) → Before p x → NoWorse p x → ⊥

-- the candidate was settled, since no earlier point is no worse; or it was not, since one is
abbrev pub IsJudged : RecordValue → Candidate → Type 0
IsJudged entries x =
    (IsSettled entries x × IsWorth entries x) ⊎ ((IsSettled entries x → ⊥) × ((p : Candidate) × Contains entries (p, settled.Solved) × Before p x × NoWorse p x))

-- those that the lists say were settled so
abbrev pub listed : Settled → FrontierValue → List Candidate
listed settled.Solved f = solved f
listed settled.Refuted f = f.refuted
listed settled.Unknown f = given_up f

-- no candidate that was given up is better
abbrev pub IsUnrivalled : List Candidate → Candidate → Type 0
IsUnrivalled unknown x = (u : Candidate) → Contains unknown u → Better u x → ⊥

-- the last of the points is no worse
abbrev pub LastSettles : List PointValue → Candidate → Type 0
LastSettles points x = (p : PointValue) × (slice_get points (length points - 1) ≡ Some p) × NoWorse p.candidate x

-- the mark of a candidate beside those that were given up
pub record IsMark (unknown : List Candidate) (x : Candidate) (mark : Mark) : Type 0 where
  pub optimal : (mark ≡ Optimal) ↔ IsUnrivalled unknown x
  pub or_open : (mark ≡ Optimal) ⊎ (mark ≡ Open)

-- the schedule solves the candidate and has what the engine promises beyond that
pub record IsFound (q : QuestionValue) (suits : Candidate → ScheduleValue → Type 0) (unknown : List Candidate) (p : PointValue) : Type 0 where
  pub solves : SolvesTightly q p.candidate p.schedule
  pub suited : suits p.candidate p.schedule
  pub mark : IsMark unknown p.candidate p.mark

-- the lists with what came of a candidate
abbrev pub IsAdded : Candidate → Outcome → FrontierValue → FrontierValue → Type 0
IsAdded x (outcome.Solved s) f g =
    (mark : Mark) × IsMark (given_up f) x mark × (g ≡ record f { points = f.points ++ record { candidate = x; schedule = s; mark = mark } ∷ [] })
IsAdded x outcome.Refuted f g = g ≡ record f { refuted = f.refuted ++ x ∷ [] }
IsAdded x (outcome.Unknown n) f g = g ≡ record f { unknown = f.unknown ++ record { candidate = x; conflicts = n } ∷ [] }

-- what the lists say is right
pub record IsSaid (q : QuestionValue) (suits : Candidate → ScheduleValue → Type 0) (f : FrontierValue) : Type 0 where
  pub points : All (IsFound q suits (given_up f)) f.points
  pub refuted : All (λ x. IsSolvable q x → ⊥) f.refuted
  pub unknown : All (λ u. u.conflicts ≡ q.limits.conflicts) f.unknown

-- the engine's record ascends and holds candidates that were passed, by whose kinds they stand in the lists; each that was passed is judged
pub record HasPassed (q : QuestionValue) (suits : Candidate → ScheduleValue → Type 0) (passed : Candidate → Type 0) (entries : RecordValue) (f : FrontierValue) : Type 0 where
  pub ascends : AllPairs (λ a b. Before a.0 b.0) entries
  pub were_passed : All (λ entry. passed entry.0) entries
  pub lists : (kind : Settled) → listed kind f ≡ of_kind kind entries
  pub said : IsSaid q suits f
  pub judged : (x : Candidate) → passed x → IsJudged entries x
