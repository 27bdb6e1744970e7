-- What a search keeps beside its core.
use Rattle.std.specs.Prelude.{◌≡◌, ℕ, []}
use Rattle.trail_core.specs.Meaning.{CoreValue}
use Rattle.sat_core.specs.declared.guide.Guide.{Guide}
use Rattle.conflict_analysis.specs.Met.{IsRested}
use Rattle.sleeping_clauses.specs.{Naming.IsListed, Sleeping.AreFew, declared.awake.Awake.Awake}

-- its tables are of the core's variables and clauses, and no mark is above those of the last analysis
pub record IsGuided (core : CoreValue) (guide : Guide) : Type 0 where
  pub rested : IsRested core.vars guide.walk.stamp guide.walk.marks.items
  pub decider : guide.decider ≡ core.vars
  pub listed : IsListed core.clauses guide.awake
  pub sleepers : guide.sleepers.vars ≡ core.vars
  pub few : AreFew guide.sleepers

-- it is of so many variables and of this table of clauses, and no clause sleeps
pub record IsNewGuide (vars : ℕ) (table : Awake) (guide : Guide) : Type 0 where
  pub rested : IsRested vars guide.walk.stamp guide.walk.marks.items
  pub decider : guide.decider ≡ vars
  pub awake : guide.awake ≡ table
  pub sleepers : guide.sleepers ≡ record { vars = vars; clauses = []; numbers = []; asleep = [] }
