-- What the copies of a placement hold.
use Rattle.std.proofs.{Common.{◌≡◌, ℕ, ◌+◌, ◌*◌, ◌<◌, ap, sym, ◌∙◌}, Math.Nat.{mod-eq_of_lt, mul-one}, lemmas.Nat.{mod-mul-add, mul-add-lt}}
use Rattle.schedule.{specs.Placed.{PlacementValue, IsPlacement, holds, placed}, proofs.Placing.{placed-alike, holds-placed}}
use Rattle.collective_spec.specs.Patterns.{in_copies, copied}

pub copies_stand : (base c nodes : ℕ) (p : PlacementValue) (copy chunk node : ℕ) → chunk < base → copy < c → node < nodes → holds (copied base c nodes p) (copy * base + chunk, node) ≡ holds p (chunk, node)
copies_stand base c nodes p copy chunk node below one_of at =
    holds-placed (base * c) nodes (in_copies base p) (copy * base + chunk, node) (mul-add-lt copy base chunk c one_of below) at
    ∙ ap (λ g. holds p (g, node)) (mod-mul-add copy base chunk below)

pub one_copy : (p : PlacementValue) → IsPlacement p → copied p.chunks 1 p.nodes p ≡ p
one_copy p limits =
    ap (λ chunks. placed chunks p.nodes (in_copies p.chunks p)) (mul-one p.chunks)
    ∙ (placed-alike p.chunks p.nodes (in_copies p.chunks p) (holds p) (λ (a, b) c n. ap (λ g. holds p (g, b)) (mod-eq_of_lt c)) ∙ sym limits)
