-- An engine, and the shelf that is lent to it.
use Rattle.std.specs.Prelude.{Bool}
use Rattle.outer_ports.specs.Files.{Files}
use Rattle.candidate_solver.specs.{Kept.EngineState, Questions.asked}
use Rattle.kept_proofs.specs.declared.engine.KeptEngine.{KeptEngine}

abbrev pub beside : KeptEngine → Bool → Files → EngineState
beside engine told files = record { part = engine.part; question = asked engine.inner.question; entries = engine.tried.entries; stopped = engine.tried.stopped; told = told; files = files }
