-- Clauses that are led by one of their literals, and signatures, by which most of them are passed over.
use Rattle.std.specs.Prelude.{◌≡◌, ◌==◌, ℕ, ◌^◌, ◌%◌, Bool, true, List, [], ◌∷◌, bit_or}
use Rattle.cnf_formula.specs.Literals.{LitValue, has_literal, code_of}

-- a literal has one of 64 bits
abbrev pub bit_of : LitValue → ℕ
bit_of l = 2 ^ (code_of l % 64)

-- the bits of a clause's literals
abbrev pub signature_of : List LitValue → ℕ
signature_of [] = 0
signature_of (x ∷ xs) = bit_or (bit_of x) (signature_of xs)

-- all bits of the first stand in the second
abbrev pub has_bits_within : ℕ → ℕ → Bool
has_bits_within signature other = bit_or signature other == other

-- a list in which a clause may be found: that of one of its literals, or the first, which is no literal's, where it has none
abbrev pub IsLead : List LitValue → ℕ → Type 0
IsLead [] code = code ≡ 0
IsLead (x ∷ xs) code = (l : LitValue) × (has_literal (x ∷ xs) l ≡ true) × (code ≡ code_of l)
