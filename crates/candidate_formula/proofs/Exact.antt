-- The formula of a candidate of a small question is satisfiable exactly where the candidate is solvable.
use Rattle.std.proofs.Common.{arith, ◌≡◌, ℕ, Bool, true, false, List, ap, ◌↔◌, if◌then◌else◌}
use Rattle.schedule.specs.{Links.{TopologyValue, reversed_of}, Placed.PlacementValue, Sends.ScheduleValue, Solving.Solvable}
use Rattle.collective_spec.{specs.Collectives.adds_up, proofs.Sized.before_among}
use Rattle.candidate_order.{specs.{declared.candidate.Candidate.Candidate, Frontiers.{QuestionValue, IsWithin, IsSolvedBy, IsSolvable, instance_for}}, proofs.Achieved.{achieved, solvable_by_one}}
use Rattle.cnf_formula.specs.Formulas.{FormulaValue, Satisfies, Satisfiable}
use Rattle.round_encoding.{specs.{Rounding.formula_of, Candidates.{IsCandidate, IsTightSolution}}, proofs.Exactly.exactly}
use Rattle.chunk_order.{specs.Ordering.ordered_formula_of, proofs.Sufficing.{parts, exactly_solvable}}
use Rattle.candidate_formula.{specs.{Formulas.{formula_for, ordered_formula_for}, Questions.IsSmallQuestion}, proofs.Sought.candidate_is}

-- the formula, with the clauses of the order where these are asked for
abbrev pub asked_formula : Bool → TopologyValue → PlacementValue → PlacementValue → ℕ → ℕ → FormulaValue
asked_formula ordered t pre post steps rounds = if ordered then ordered_formula_of t pre post steps rounds else formula_of t pre post steps rounds

-- what copies is sought over its own links
pub copied_formula : (q : QuestionValue) (x : Candidate) → adds_up q.spec ≡ false → formula_for q x ≡ asked_formula q.limits.pruning.ordered q.topology (instance_for q x).pre (instance_for q x).post x.s x.r
copied_formula q x e = ap (λ b. asked_formula q.limits.pruning.ordered (if b then reversed_of q.topology else q.topology) (instance_for q x).pre (instance_for q x).post x.s x.r) e

pub copied_ordered : (q : QuestionValue) (x : Candidate) → adds_up q.spec ≡ false → ordered_formula_for q x ≡ ordered_formula_of q.topology (instance_for q x).pre (instance_for q x).post x.s x.r
copied_ordered q x e = ap (λ b. ordered_formula_of (if b then reversed_of q.topology else q.topology) (instance_for q x).pre (instance_for q x).post x.s x.r) e

pub asked_exact : (ordered : Bool) (t : TopologyValue) (pre post : PlacementValue) (steps rounds : ℕ) → IsCandidate t pre post steps rounds → Satisfiable (asked_formula ordered t pre post steps rounds) ↔ Solvable t pre post steps rounds
asked_exact true t pre post steps rounds is = exactly_solvable t pre post steps rounds is
asked_exact false t pre post steps rounds is = exactly t pre post steps rounds is

-- an assignment that satisfies it satisfies the formula without the clauses of the order
pub plain_holds : (ordered : Bool) (t : TopologyValue) (pre post : PlacementValue) (steps rounds : ℕ) → IsCandidate t pre post steps rounds → (values : List Bool) → Satisfies values (asked_formula ordered t pre post steps rounds) → Satisfies values (formula_of t pre post steps rounds)
plain_holds true t pre post steps rounds is values h = (parts t pre post steps rounds is values h).0
plain_holds false t pre post steps rounds is values h = h

-- a formula that is satisfiable exactly where what copies is solvable
pub solvable_by : (q : QuestionValue) (x : Candidate) (f g : FormulaValue) → adds_up q.spec ≡ false → f ≡ g → Satisfiable g ↔ Solvable q.topology (instance_for q x).pre (instance_for q x).post x.s x.r → Satisfiable f ↔ IsSolvable q x
solvable_by q x f g copies formula both = grind (arith, solvable_by_one, achieved)

pub exact_for : (q : QuestionValue) (x : Candidate) → adds_up q.spec ≡ false → IsCandidate q.topology (instance_for q x).pre (instance_for q x).post x.s x.r → Satisfiable (formula_for q x) ↔ IsSolvable q x
exact_for q x copies is =
    solvable_by q x (formula_for q x) (asked_formula q.limits.pruning.ordered q.topology (instance_for q x).pre (instance_for q x).post x.s x.r) copies (copied_formula q x copies)
    (asked_exact q.limits.pruning.ordered q.topology (instance_for q x).pre (instance_for q x).post x.s x.r is)

pub formula_exact : (q : QuestionValue) (x : Candidate) → IsSmallQuestion q → IsWithin q x → Satisfiable (formula_for q x) ↔ IsSolvable q x
formula_exact q x ok w = exact_for q x ok.copies (candidate_is q x ok w)

pub ordered_exact : (q : QuestionValue) (x : Candidate) → IsSmallQuestion q → IsWithin q x → Satisfiable (ordered_formula_for q x) ↔ IsSolvable q x
ordered_exact q x ok w =
    solvable_by q x (ordered_formula_for q x) (ordered_formula_of q.topology (instance_for q x).pre (instance_for q x).post x.s x.r) ok.copies (copied_ordered q x ok.copies)
    (exactly_solvable q.topology (instance_for q x).pre (instance_for q x).post x.s x.r (candidate_is q x ok w))

-- a tight solution of the instance solves the candidate
pub tight_solves : (q : QuestionValue) (x : Candidate) (s : ScheduleValue) → adds_up q.spec ≡ false → IsTightSolution q.topology (instance_for q x).pre (instance_for q x).post s x.s x.r → IsSolvedBy q x s
tight_solves q x s copies is = grind (arith, before_among)
