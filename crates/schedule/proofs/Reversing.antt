-- Turning each link round twice.
use Rattle.std.proofs.Common.{◌≡◌, ℕ, List, [], ◌∷◌, map, refl, ap, arith}
use Rattle.schedule.specs.Links.{GroupValue, TopologyValue, turned, reversed_group, reversed_of}

links_back : (links : List (ℕ × ℕ)) → map turned (map turned links) ≡ links
links_back [] = refl
links_back (link ∷ links) = ap (λ ls. link ∷ ls) (links_back links)

groups_back : (groups : List GroupValue) → map reversed_group (map reversed_group groups) ≡ groups
groups_back [] = refl
groups_back (group ∷ groups) = grind (arith, links_back, groups_back groups)

pub reversed_twice : (t : TopologyValue) → reversed_of (reversed_of t) ≡ t
reversed_twice t = ap (λ gs. record { nodes = t.nodes; groups = gs }) (groups_back t.groups)
