-- The lines of a replay: who holds which chunk after each step, and the verdict.
use Rattle.std.specs.{Prelude.{ℕ, ◌+◌, List, [], ◌∷◌, ◌++◌, map, filter, codes, decimal}, List.range_with_len}
use Rattle.schedule.specs.{Placed.{PlacementValue, holds}, declared.verdict.Verdict.{Verdict, TheVariants.{Solves, Overfull, Lacking, NoLink}}}
use Rattle.topology_text.specs.Spelling.{name_at}

-- the lines of the nodes: a node's name, and the chunks that it holds, ascending
abbrev pub held_lines : List (List ℕ) → PlacementValue → List (List (List ℕ))
held_lines names p = map (λ node. name_at names node ∷ map decimal (filter (λ chunk. holds p (chunk, node)) (range_with_len 0 p.chunks))) (range_with_len 0 p.nodes)

-- the lines of the nodes after this step and the later ones
abbrev pub numbered_steps : ℕ → List (List (List (List ℕ))) → List (List (List ℕ))
numbered_steps step [] = []
numbered_steps step (lines ∷ more) = (codes "step" ∷ decimal step ∷ []) ∷ lines ++ numbered_steps (step + 1) more

-- nodes by name, groups by number
abbrev pub verdict_words : List (List ℕ) → Verdict → List (List ℕ)
verdict_words names Solves = codes "holds" ∷ []
verdict_words names (NoLink h) = codes "nolink" ∷ decimal h.chunk ∷ name_at names h.from ∷ name_at names h.to ∷ decimal h.step ∷ []
verdict_words names (Overfull step group count) = codes "overfull" ∷ decimal step ∷ decimal group ∷ decimal count ∷ []
verdict_words names (Lacking chunk node) = codes "lacking" ∷ decimal chunk ∷ name_at names node ∷ []
