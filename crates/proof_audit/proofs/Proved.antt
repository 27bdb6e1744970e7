-- Tests of files pass exactly where the files are what they have to be.
use Rattle.std.proofs.{Common.{arith, ◌≡◌, ℕ, suc, true, List, [], ◌∷◌, length, Option, Some, None, refl, ap, ◌∙◌, ◌&&◌, map}, lemmas.Bool.{and_parts, eqb-true, eq-eqb, and_from}}
use Rattle.cnf_formula.specs.{Formulas.FormulaValue, Lines.ProofLineValue, declared.line.LratLine.{LratLine, TheVariants.{Addition, Deletion}}}
use Rattle.proof_rules.specs.{Held.{CheckerValue, start_of}, Testing.is_rup, Refuting.{all_accepted, with_line, is_fresh, after_lines, are_learned, Refutes, SpentLog}}
use Rattle.proof_audit.specs.Tested.{do_refute, do_spend}

-- ---- refutations

pub refutes_by : (f : FormulaValue) (said : Option (List LratLine)) → do_refute f said ≡ true → (lines : List LratLine) × (said ≡ Some lines) × Refutes lines f
refutes_by f None e = absurd (cc)
refutes_by f (Some lines) e = grind (arith, and_parts)

pub by_refuting : (f : FormulaValue) (said : Option (List LratLine)) (lines : List LratLine) → said ≡ Some lines → Refutes lines f → do_refute f said ≡ true
by_refuting f said lines e h = ap (do_refute f) e ∙ and_from (all_accepted (start_of f) lines) (after_lines (start_of f) lines).refuted h.accepted h.refuted

-- ---- logs

additions_of : (c : CheckerValue) (lines : List LratLine) → are_learned c lines ≡ true → (added : List ProofLineValue) × (lines ≡ map Addition added)
additions_of c [] e = ([], refl)
additions_of c (Deletion deletion ∷ lines) e = absurd (cc)
additions_of c (Addition line ∷ lines) e =
    let parts = and_parts (is_rup c line && is_fresh c line.lits) (are_learned (with_line c line) lines) e in
    let (added, are) = additions_of (with_line c line) lines parts.1 in
    (line ∷ added, ap (λ ls. Addition line ∷ ls) are)

map_length : (added : List ProofLineValue) → length (map Addition added) ≡ length added
map_length [] = refl
map_length (line ∷ added) = ap (λ n. suc n) (map_length added)

pub record SpentBy (f : FormulaValue) (n : ℕ) (said : Option (List LratLine)) : Type 0 where
  pub added : List ProofLineValue
  pub says : said ≡ Some (map Addition added)
  pub spent : SpentLog added f n

pub spent_by : (f : FormulaValue) (n : ℕ) (said : Option (List LratLine)) → do_spend f n said ≡ true → SpentBy f n said
spent_by f n None e = absurd (cc)
spent_by f n (Some lines) e = grind (arith, and_parts, additions_of, map_length, eqb-true)

pub by_spending : (f : FormulaValue) (n : ℕ) (said : Option (List LratLine)) (added : List ProofLineValue) → said ≡ Some (map Addition added) → SpentLog added f n → do_spend f n said ≡ true
by_spending f n said added e s = grind (arith, and_from, eq-eqb, map_length)
