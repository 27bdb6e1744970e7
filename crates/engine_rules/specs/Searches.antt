-- What stays as it was from call to call of an engine, and what lets it go on.
use Rattle.std.specs.Prelude.{◌≡◌, ◌↔◌, Option, None}
use Rattle.schedule.specs.Sends.{ScheduleValue}
use Rattle.candidate_order.specs.declared.candidate.Candidate.{Candidate}
use Rattle.engine_rules.specs.declared.engine.EngineView as view

-- an engine is asked what another is, by the same formulas, and promises the same of its schedules
pub record IsSameSearch {D E : Type 0} (V : view.Ghosts D) (before : D) (W : view.Ghosts E) (now : E) : Type 0 where
  pub question : W.question now ≡ V.question before
  pub formula : (x : Candidate) → W.formula now x ≡ V.formula before x
  pub suits : (x : Candidate) (s : ScheduleValue) → W.suits now x s ↔ V.suits before x s

-- the engine has not failed, and its store holds what its record says
pub record CanGoOn (stopped : Option Candidate) (holds : Type 0) : Type 0 where
  pub running : stopped ≡ None
  pub agrees : holds
