-- What a try at a candidate says, by the formula with the clauses of the order.
use Rattle.std.proofs.Common.{◌≡◌, ℕ, Bool, true, false, List, refl}
use Rattle.schedule.specs.Sends.{ScheduleValue}
use Rattle.collective_spec.specs.Collectives.{adds_up}
use Rattle.cnf_formula.specs.{Formulas.{FormulaValue, Satisfies}, Lines.ProofLineValue}
use Rattle.round_encoding.specs.{declared.encoding.Encoding.Encoding, Candidates.IsEncodingOf}
use Rattle.sat_core.specs.declared.solving.SatAnswer.{SatAnswer}
use Rattle.candidate_order.specs.{declared.{candidate.Candidate.Candidate, outcome.Outcome.Outcome}, Ranges.LimitsValue, Frontiers.{QuestionValue, Achieves, instance_for}}
use Rattle.candidate_formula.specs.{Encodings.schedule_said, Formulas.{ordered_formula_for, OrderedFor}, Questions.IsSmallQuestion}
use Rattle.candidate_solver.{specs.Trying.{IsSearch, Says}, proofs.Tried.outcome_by}
use Rattle.chunk_symmetry.specs.Trying.{IsOrderedOutcome}

-- the same limits, where only ordered schedules are sought
abbrev pub ordered_limits : LimitsValue → LimitsValue
ordered_limits l = record l { pruning = record { cuts = false; ordered = true } }

-- the same question, which has only ordered schedules sought
abbrev pub in_order : QuestionValue → QuestionValue
in_order q = record q { limits = ordered_limits q.limits }

as_small : (q : QuestionValue) → IsSmallQuestion q → IsSmallQuestion (in_order q)
as_small q small = record {
  topology = small.topology;
  spec = small.spec;
  copies = small.copies;
  limits = record {
    k = small.limits.k;
    some_steps = small.limits.some_steps;
    steps = small.limits.steps;
    some_chunks = small.limits.some_chunks;
    chunks = small.limits.chunks;
    some_conflicts = small.limits.some_conflicts;
    conflicts = small.limits.conflicts;
  };
  size = small.size;
}

-- what is asked of a schedule is the same
achieved : (adds : Bool) (q : QuestionValue) (x : Candidate) (s : ScheduleValue) → Achieves adds (in_order q) x s → Achieves adds q x s
achieved true q x s has = has
achieved false q x s has = has

pub ordered_by : (q : QuestionValue) (x : Candidate) (e : Encoding) (f : FormulaValue) (lines : List ProofLineValue) (said : SatAnswer) (limit : ℕ) (out : Outcome) → IsSmallQuestion q → f ≡ ordered_formula_for q x → limit ≡ q.limits.conflicts
    → IsEncodingOf q.topology (instance_for q x).pre (instance_for q x).post x.s x.r e → ((values : List Bool) → Satisfies values f → OrderedFor q x (schedule_said e values)) → IsSearch f limit lines said → Says e said limit out → IsOrderedOutcome q x lines out
ordered_by q x e f lines said limit out small same limited is ordered found says =
    let by = outcome_by (in_order q) x e f lines said limit out (as_small q small) same limited is (λ values holds _. ordered values holds) found says in
    record {
      proves = record {
        solved = λ s o. let solved = by.solved s o in record { solves = record { valid = solved.solves.valid; in_range = solved.solves.in_range; achieves = achieved (adds_up q.spec) q x s solved.solves.achieves }; tight = solved.tight };
        suits = λ s o _. by.suits s o refl;
        refuted = by.refuted;
        unknown = by.unknown;
      };
      ordered = λ s o. by.suits s o refl;
    }
