-- An engine, and the shelf that is lent to it.
use Rattle.std.specs.Prelude.{Bool}
use Rattle.outer_ports.specs.Files.{Files}
use Rattle.candidate_solver.specs.{declared.kept.SatEngine.SatEngine, Questions.asked, Kept.EngineState}

abbrev pub beside : SatEngine → Bool → Files → EngineState
beside engine told files = record { part = engine.part; question = asked engine.question; entries = engine.tried.entries; stopped = engine.tried.stopped; told = told; files = files }
