-- Formulas with several counters, one after the other.
use Rattle.std.specs.{Prelude.{ℕ, ◌+◌, ◌*◌, ◌<◌, List, [], ◌∷◌, ◌++◌, length, map, All}, List.range_with_len}
use Rattle.schedule.specs.Links.{GroupValue, TopologyValue}
use Rattle.cnf_formula.specs.{Literals.{LitValue, negation}, Formulas.FormulaValue}
use Rattle.send_encoding.specs.Variables.{SendMapValue, link_number}
use Rattle.round_encoding.specs.{Frames.{Frame, extra_round}, Rounding.{Count, with_count}}

-- the formula with these counters, and what is said of them
abbrev pub with_counts : FormulaValue → List Count → FormulaValue
with_counts f [] = f
with_counts f (count ∷ counts) = with_counts (with_count f count) counts

-- what is said of the outputs of a group's counter at a step
abbrev pub said_of_group : Frame → ℕ → ℕ → (ℕ → LitValue) → List (List LitValue)
said_of_group f s width o = map (λ j. negation (o (width * j + 1)) ∷ extra_round f s j ∷ []) (range_with_len 1 f.extra) ++ (negation (o (width * (1 + f.extra) + 1)) ∷ []) ∷ []

-- a group's counter has no more variables than this
abbrev pub room : Frame → GroupValue → ℕ
room f group = f.map.chunks * length group.links * (group.width * (1 + f.extra) + 1)

-- each link of each group is one of the map
abbrev pub HasLinks : SendMapValue → TopologyValue → Type 0
HasLinks m t = All (λ group. All (λ link. link_number m link < length m.links) group.links) t.groups
