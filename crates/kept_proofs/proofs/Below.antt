-- The engine that searches, below one that takes up refutations.
use Rattle.std.proofs.Common.{Bool}
use Rattle.outer_ports.specs.Files.{Files}
use Rattle.candidate_formula.specs.Formulas.{formula_for}
use Rattle.candidate_solver.specs.{Beside.beside as beside_inner, Kept.EngineState, Questions.asked}
use Rattle.kept_proofs.{specs.declared.engine.KeptEngine.KeptEngine, proofs.Standing.Standing}

-- its state beside a shelf
abbrev pub below : KeptEngine → Bool → Files → EngineState
below e told files = beside_inner e.inner told files

-- what the engine keeps of it
pub standing_of : (e : KeptEngine) → Standing e.kept (asked e.inner.question) (formula_for (asked e.inner.question)) e.inner.tried.entries e.inner.tried.stopped e.tried.entries e.tried.stopped
standing_of e = record { among = e.among; stops = e.stops; right = e.right; exhausted = e.exhausted; searches = e.searches }
