-- Where checks pass.
use Rattle.std.proofs.{Common.{arith, ◌≡◌, Bool, true, List, [], ◌∷◌, Ok, refl, All, not}, lemmas.List.Elements.{All-nil, All-cons, All-head, All-tail}}
use Rattle.text_lines.{specs.Check.{◌>>=◌, refuse}, proofs.Checks.bind_ok}
use Rattle.outer_ports.specs.declared.part.Part.{Part}
use Rattle.frontier_audit.specs.{declared.verdict.AuditVerdict.TheVariants.Verified, Denials.{Denial, Checked, each, in_part, verdict_from}}

-- a check and the rest, both ways
pub then_ok : {E : Type 0} (first rest : Checked E) → (first >>= (λ _. rest)) ≡ Ok tt → (first ≡ Ok tt) × (rest ≡ Ok tt)
then_ok {E} first rest e = let (u, head, tail) = bind_ok first (λ _. rest) tt e in (head, tail)

pub ok_then : {E : Type 0} (first rest : Checked E) → first ≡ Ok tt → rest ≡ Ok tt → (first >>= (λ _. rest)) ≡ Ok tt
ok_then {E} first rest a b = grind arith

pub each_ok : {X E : Type 0} (check : X → Checked E) (xs : List X) → each check xs ≡ Ok tt → All (λ x. check x ≡ Ok tt) xs
each_ok check [] e = All-nil (λ x. check x ≡ Ok tt)
each_ok check (x ∷ xs) e = let both = then_ok (check x) (each check xs) e in All-cons (λ y. check y ≡ Ok tt) x xs both.0 (each_ok check xs both.1)

pub ok_each : {X E : Type 0} (check : X → Checked E) (xs : List X) → All (λ x. check x ≡ Ok tt) xs → each check xs ≡ Ok tt
ok_each check [] a = refl
ok_each check (x ∷ xs) a = ok_then (check x) (each check xs) (All-head (λ y. check y ≡ Ok tt) x xs a) (ok_each check xs (All-tail (λ y. check y ≡ Ok tt) x xs a))

pub refused_not : {C : Type 0} (b : Bool) (code : C) → refuse (not b) code ≡ Ok tt → b ≡ true
refused_not {C} b code e = grind arith

pub not_refused : {C : Type 0} (b : Bool) (code : C) → b ≡ true → refuse (not b) code ≡ Ok tt
not_refused {C} b code e = grind arith

pub in_part_ok : (part : Part) (checked : Checked Denial) → in_part part checked ≡ Ok tt → checked ≡ Ok tt
in_part_ok part checked e = grind arith

pub ok_in_part : (part : Part) (checked : Checked Denial) → checked ≡ Ok tt → in_part part checked ≡ Ok tt
ok_in_part part checked e = grind arith

pub verified_ok : (checked : Checked (Part × Denial)) → verdict_from checked ≡ Verified → checked ≡ Ok tt
verified_ok checked e = grind arith

pub ok_verified : (checked : Checked (Part × Denial)) → checked ≡ Ok tt → verdict_from checked ≡ Verified
ok_verified checked e = grind arith
