-- Signatures of clauses: one that stands in another has no bit that the other lacks.
use Rattle.std.proofs.{Common.{◌≡◌, ℕ, ◌+◌, ◌<◌, ◌≤◌, true, List, [], ◌∷◌, ◌++◌, length, take, get_or, sym, ap, ◌∙◌, subst, arith, bit_or}, Math.Nat.max-eq_right, lemmas.{Bool.{false≢true, eq-eqb}, List.take_more}}
use Rattle.std.{proofs.lemmas.Nat.Bits.{bit_at_or, bit_at-zero, same_from_bits}, specs.Int.{bit_at, Bits.{or_zero_r, or_zero_l}}}
use Rattle.cnf_formula.specs.Literals.{LitValue, has_literal, is_superset}
use Rattle.lrat_checker.specs.inner.Leads.{bit_of, signature_of, has_bits_within}

-- ---- one literal more

or_assoc : (a b c : ℕ) → bit_or (bit_or a b) c ≡ bit_or a (bit_or b c)
or_assoc a b c =
    grind (arith, same_from_bits (bit_or (bit_or a b) c) (bit_or a (bit_or b c)), bit_at_or (bit_or a b) c, bit_at_or a b, bit_at_or b c, bit_at_or a (bit_or b c))

signature-push : (xs : List LitValue) (x : LitValue) → signature_of (xs ++ x ∷ []) ≡ bit_or (signature_of xs) (bit_of x)
signature-push [] x = or_zero_r (bit_of x) ∙ sym (or_zero_l (bit_of x))
signature-push (y ∷ xs) x = ap (bit_or (bit_of y)) (signature-push xs x) ∙ sym (or_assoc (bit_of y) (signature_of xs) (bit_of x))

pub one_bit_more : (xs : List LitValue) (k : ℕ) (x : LitValue) → k < length xs → x ≡ get_or xs k x → bit_or (signature_of (take k xs)) (bit_of x) ≡ signature_of (take (k + 1) xs)
one_bit_more xs k x w is = sym (ap signature_of (take_more xs k x w ∙ ap (λ y. take k xs ++ y ∷ []) (sym is)) ∙ signature-push (take k xs) x)

-- ---- the bits of literals that stand in a clause

bits_of_literal : (ys : List LitValue) (x : LitValue) → has_literal ys x ≡ true → (i : ℕ) → bit_at (bit_of x) i ≤ bit_at (signature_of ys) i
bits_of_literal [] x h i = absurd (false≢true h)
bits_of_literal (y ∷ ys) x h i = grind (arith, bit_at_or (bit_of y) (signature_of ys) i, bits_of_literal ys x)

bits_of_clause : (ys xs : List LitValue) → is_superset ys xs ≡ true → (i : ℕ) → bit_at (signature_of xs) i ≤ bit_at (signature_of ys) i
bits_of_clause ys [] h i = subst (λ n. n ≤ bit_at (signature_of ys) i) (sym (bit_at-zero i)) (omega arith)
bits_of_clause ys (x ∷ xs) h i = grind (arith, bit_at_or (bit_of x) (signature_of xs) i, bits_of_literal ys x, bits_of_clause ys xs)

pub signature_within : (ys xs : List LitValue) → is_superset ys xs ≡ true → has_bits_within (signature_of xs) (signature_of ys) ≡ true
signature_within ys xs h =
    let a = signature_of xs in
    let b = signature_of ys in
    eq-eqb (bit_or a b) b (same_from_bits (bit_or a b) b (λ i. bit_at_or a b i ∙ max-eq_right (bits_of_clause ys xs h i)))
