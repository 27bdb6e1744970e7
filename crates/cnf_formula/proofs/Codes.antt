-- A literal and its number give each other.
use Rattle.std.proofs.{Common.{◌≡◌, ℕ, ◌+◌, ◌*◌, ◌/◌, ◌%◌, ◌<◌, Bool, true, false, eqb, ap, sym, ◌∙◌, arith, cond}, lemmas.Nat.{div-mul-add, mod-mul-add}}
use Rattle.cnf_formula.specs.{Literals.{LitValue, code_of, literal_of}, Formulas.IsAbout}

-- the number of a variable and a sign
pub halves : (v d : ℕ) → d < 2 → ((2 * v + d) / 2 ≡ v) × ((2 * v + d) % 2 ≡ d)
halves v d small =
    let turned : 2 * v + d ≡ v * 2 + d = omega arith in
    (ap (λ n. n / 2) turned ∙ div-mul-add v 2 d small, ap (λ n. n % 2) turned ∙ mod-mul-add v 2 d small)

pub literal-code : (l : LitValue) → literal_of (code_of l) ≡ l
literal-code l = go l.var l.positive
  where
    go : (v : ℕ) (p : Bool) → literal_of (code_of (record { var = v; positive = p })) ≡ record { var = v; positive = p }
    go v true = let h = halves v 0 (omega arith) in λ i. record { var = h.0 i; positive = eqb (h.1 i) 0 }
    go v false = let h = halves v 1 (omega arith) in λ i. record { var = h.0 i; positive = eqb (h.1 i) 0 }

-- literals with one number are one
pub same_code : (l m : LitValue) → code_of l ≡ code_of m → l ≡ m
same_code l m e = sym (literal-code l) ∙ ap literal_of e ∙ literal-code m

-- the number of a literal of so many variables
pub code_within : (vars : ℕ) (l : LitValue) → IsAbout vars l → code_of l < 2 * vars + 2
code_within vars l about = by_sign l.positive
  where
    by_sign : (b : Bool) → 2 * l.var + cond {A = ℕ} b 0 1 < 2 * vars + 2
    by_sign true = let low = about.within in omega (arith, low)
    by_sign false = let low = about.within in omega (arith, low)
