-- The decision level, the reason and the place of each variable, in one table.
use Rattle.std.specs.Prelude.{ℕ, ◌==◌, List, Option, None, Some, map, if◌then◌else◌}
use Rattle.trail_core.specs.declared.trail.Assignment.{Assignment}

-- the last number of four bytes stands for no clause
abbrev pub reason_of : Assignment → Option ℕ
reason_of a = if a.reason == 4294967295 then None else Some a.reason

abbrev pub reasons_of : List Assignment → List (Option ℕ)
reasons_of assignments = map reason_of assignments

abbrev pub levels_of : List Assignment → List ℕ
levels_of assignments = map (λ a. a.level) assignments

abbrev pub places_of : List Assignment → List ℕ
places_of assignments = map (λ a. a.place) assignments
