-- A reading into the front of a longer buffer.
use Rattle.std.proofs.{Common.{arith, ℕ, ◌<◌, ◌≤◌, List, ◌++◌, length, Option, None, Some, IfSome}, lemmas.List.take-append-le}
use Rattle.outer_ports.specs.Shelf.{HoldsBytes}

pub read_longer : (bytes front rest : List ℕ) (place : ℕ) (count : Option ℕ) → (0 < length (front ++ rest) → 0 < length front) → IfSome count (λ n. n ≤ length front) → IfSome count (HoldsBytes bytes place front) → IfSome count (HoldsBytes bytes place (front ++ rest))
read_longer bytes front rest place None some within held = tt
read_longer bytes front rest place (Some n) some within held = grind (arith, take-append-le)
