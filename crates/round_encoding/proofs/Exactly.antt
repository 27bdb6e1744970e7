-- A candidate's formula is satisfiable exactly where the candidate is solvable.
use Rattle.std.{proofs.Common.arith, specs.Prelude.{ℕ, Bool, List}}
use Rattle.schedule.specs.{Links.TopologyValue, Placed.PlacementValue, Sends.{ScheduleValue, IsSchedule, IsInRange}, Solving.{Solves, Solvable}}
use Rattle.send_encoding.specs.{Variables.map_of, Agreeing.SatisfiesAs}
use Rattle.cnf_formula.specs.Formulas.{Satisfies, Satisfiable}
use Rattle.round_encoding.{specs.{Frames.frame_of, Rounding.formula_of, Decoding.decoded, Candidates.{IsCandidate, IsTightSolution}}, proofs.{Complete.complete, Sound.{sound_schedule, sound_range, sound_solves, sound_tight}}}

pub sound : (t : TopologyValue) (pre post : PlacementValue) (steps rounds : ℕ) (values : List Bool) → IsCandidate t pre post steps rounds → Satisfies values (formula_of t pre post steps rounds)
    → IsTightSolution t pre post (decoded (frame_of t pre steps rounds) values) steps rounds
sound t pre post steps rounds values c h = record {
  valid = sound_schedule t pre post steps rounds values c.topology c.nodes c.chunks c.some h c.few c.most;
  in_range = sound_range t pre post steps rounds values c.topology c.nodes c.chunks c.some h;
  solves = sound_solves t pre post steps rounds values c.topology c.nodes c.chunks c.some h c.wanted c.chunks_wanted c.nodes_wanted c.least;
  tight = sound_tight t pre post steps rounds values c.topology c.nodes c.chunks c.some h;
}

pub exactly : (t : TopologyValue) (pre post : PlacementValue) (steps rounds : ℕ) → IsCandidate t pre post steps rounds
    → (Satisfiable (formula_of t pre post steps rounds) → Solvable t pre post steps rounds) × (Solvable t pre post steps rounds → Satisfiable (formula_of t pre post steps rounds))
exactly t pre post steps rounds c = (
  λ some. let it = sound t pre post steps rounds some.values c some.satisfies in record { schedule = decoded (frame_of t pre steps rounds) some.values; valid = it.valid; in_range = it.in_range; solves = it.solves },
  λ some. let found = complete t pre post some.schedule steps rounds c.topology c.nodes c.chunks c.some some.valid some.in_range some.solves in record { values = found.0; satisfies = found.1 },
)

pub completely : (t : TopologyValue) (pre post : PlacementValue) (s : ScheduleValue) (steps rounds : ℕ) → IsCandidate t pre post steps rounds → IsSchedule s → IsInRange pre.chunks pre.nodes s → Solves t pre post s steps rounds
    → SatisfiesAs (map_of t pre steps) pre s (formula_of t pre post steps rounds)
completely t pre post s steps rounds c valid range solves = grind (arith, complete t pre post s steps rounds c.topology c.nodes c.chunks c.some valid range solves)
