-- The open files after one of a kind was put in place of another.
use Rattle.std.proofs.Common.{arith, ◌≡◌, ◌≢◌, ◌⊎◌, refl, Option, None, Some, inl, inr}
use Rattle.outer_ports.specs.{declared.{open_files.OpenFiles.OpenFiles, proof_name.{FileKind.{FileKind, TheVariants.{Cnf, Lrat, Partial}}, ProofName.ProofName}}, inner.OpenFiles.{open_of, Holds}}

kinds_same : (j k : FileKind) → (j ≡ k) ⊎ (j ≢ k)
kinds_same Cnf Cnf = inl refl
kinds_same Cnf Lrat = inr (λ e. absurd (cc))
kinds_same Cnf Partial = inr (λ e. absurd (cc))
kinds_same Lrat Cnf = inr (λ e. absurd (cc))
kinds_same Lrat Lrat = inl refl
kinds_same Lrat Partial = inr (λ e. absurd (cc))
kinds_same Partial Cnf = inr (λ e. absurd (cc))
kinds_same Partial Lrat = inr (λ e. absurd (cc))
kinds_same Partial Partial = inl refl

pub some_is_none : {X : Type 0} (o : Option X) (x : X) → o ≡ None → o ≡ Some x → ⊥
some_is_none o x none some = absurd (cc)

pub same_held : {F : Type 0} (o : Option (ProofName × F)) (a b : ProofName) (x y : F) → o ≡ Some (a, x) → o ≡ Some (b, y) → (b ≡ a) × (y ≡ x)
same_held {F} o a b x y one other = grind arith

-- where none of a kind is left, each that is open was open
pub held_before : {F : Type 0} (before now : OpenFiles F) (kind : FileKind) → open_of now kind ≡ None → ((other : FileKind) → other ≢ kind → open_of now other ≡ open_of before other) → (name : ProofName) (file : F) → Holds now name file → Holds before name file
held_before before now kind none others name file holds = grind (arith, kinds_same, some_is_none)

-- and where one is, each that is open is that one or was open
pub held_after : {F : Type 0} (before now : OpenFiles F) (begun : ProofName) (put : F) → Holds now begun put → ((other : FileKind) → other ≢ begun.kind → open_of now other ≡ open_of before other) → (name : ProofName) (file : F) → Holds now name file → ((name ≡ begun) × (file ≡ put)) ⊎ ((name.kind ≢ begun.kind) × Holds before name file)
held_after before now begun put here others name file holds = grind (arith, kinds_same, same_held)
