-- The words that name families. This project's own.
use Rattle.std.specs.Prelude.{ℕ, List, [], ◌∷◌, Option, find, bytes_eq, codes}
use Rattle.topology_families.specs.declared.family_kind.FamilyKind.{FamilyKind, TheVariants.{Line, Ring, Complete, Cube, Shared, Torus, Mesh, Switch, Boxes}}

-- the kinds of families, in the order of their numbers
abbrev pub families : List FamilyKind
families = Line ∷ Ring ∷ Complete ∷ Shared ∷ Cube ∷ Torus ∷ Mesh ∷ Switch ∷ Boxes ∷ []

-- the word of a kind of family
abbrev pub family_word : FamilyKind → List ℕ
family_word Line = codes "line"
family_word Ring = codes "ring"
family_word Complete = codes "complete"
family_word Cube = codes "cube"
family_word Shared = codes "shared"
family_word Torus = codes "torus"
family_word Mesh = codes "mesh"
family_word Switch = codes "switch"
family_word Boxes = codes "boxes"

-- the kind that has this word
abbrev pub family_named : List ℕ → Option FamilyKind
family_named word = find (λ kind. bytes_eq (family_word kind) word) families
