-- The least chunk count of a collective.
use Rattle.std.proofs.{Common.{◌≡◌, ℕ, ◌%◌, ◌<◌, ◌≤◌, Bool, true, refl, arith, ◌==◌, ◌&&◌, nat_le}, Math.Nat.{mod_self, mod-eq_of_lt}, lemmas.Bool.{and_from, and_parts, le-leb, leb-true, eq-eqb, eqb-true, cases_lt}}
use Rattle.collective_spec.specs.{declared.kind.Kind.{Kind, TheVariants.Alltoall}, Kinds.allows}
use Rattle.node_cuts.specs.Floors.{least_count}

pub least_allowed : (kind : Kind) (nodes : ℕ) → 0 < nodes → allows kind nodes (least_count kind nodes) ≡ true
least_allowed Alltoall nodes some = and_from (nat_le 1 nodes) (nodes % nodes == 0) (le-leb 1 nodes (omega (arith, some))) (eq-eqb (nodes % nodes) 0 (mod_self nodes))
least_allowed kind nodes some = refl

positive : (c : ℕ) (b : Bool) → (nat_le 1 c && b) ≡ true → 1 ≤ c
positive c b allowed = leb-true 1 c (and_parts (nat_le 1 c) b allowed).0

pub least_least : (kind : Kind) (nodes c : ℕ) → allows kind nodes c ≡ true → least_count kind nodes ≤ c
least_least Alltoall nodes c allowed = grind (arith, and_parts (nat_le 1 c) (c % nodes == 0) allowed, eqb-true (c % nodes) 0, leb-true 1 c, mod-eq_of_lt, cases_lt c nodes)
least_least kind nodes c allowed = positive c true allowed

pub least_positive : (kind : Kind) (nodes : ℕ) → 0 < nodes → 0 < least_count kind nodes
least_positive kind nodes some = omega (arith, positive (least_count kind nodes) _ (least_allowed kind nodes some))
