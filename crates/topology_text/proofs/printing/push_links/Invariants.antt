use Rattle.std.{proofs.Common.{◌≡◌, ◌++◌, ◌∷◌, map, take}, specs.List.flat_map}
use Rattle.topology_text.specs.Spelling.{link_word}
use Rattle.topology_text.proofs.printing.push_links.Given as goal

abbrev pub invariant-loop-from : goal.invariant-loop-from
invariant-loop-from l = l.out.items ≡ l.initial.out.items ++ flat_map (λ w. 32 ∷ w) (map (link_word l.names) (take l.from-index l.links))
