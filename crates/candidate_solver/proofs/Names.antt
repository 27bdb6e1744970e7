-- Names of files, which are one or not.
use Rattle.std.proofs.{Common.{arith, ◌≡◌, ℕ, refl, ◌⊎◌, ◌==◌, if◌then◌else◌}, lemmas.Bool.{cases_eq, Decides.nat_tests}}
use Rattle.outer_ports.specs.{declared.{part.Part.Part, proof_name.{FileKind.{FileKind, TheVariants.{Cnf, Lrat, Partial}}, ProofName.ProofName}}, Files.{part_number, kind_number}}
use Rattle.outer_ports.specs.declared.part.Part.TheVariants as part

abbrev numbered_kind : ℕ → FileKind
numbered_kind n = if n == 0 then Cnf else if n == 1 then Lrat else Partial

kind_back : (k : FileKind) → numbered_kind (kind_number k) ≡ k
kind_back Cnf = refl
kind_back Lrat = refl
kind_back Partial = refl

abbrev numbered_part : ℕ → Part
numbered_part n = if n == 0 then part.Whole else if n == 1 then part.Reduce else if n == 2 then part.Gather else part.Joined

part_back : (p : Part) → numbered_part (part_number p) ≡ p
part_back part.Whole = refl
part_back part.Reduce = refl
part_back part.Gather = refl
part_back part.Joined = refl

-- names that are numbered alike are one
same_parts : (a b : ProofName) → kind_number a.kind ≡ kind_number b.kind → part_number a.part ≡ part_number b.part → a.s ≡ b.s → a.r ≡ b.r → a.c ≡ b.c → a ≡ b
same_parts a b k p s r c = grind (arith, nat_tests, kind_back, part_back)

pub one_or_apart : (a b : ProofName) → (a ≡ b) ⊎ (a ≡ b → ⊥)
one_or_apart a b = grind (arith, nat_tests, same_parts, cases_eq)
