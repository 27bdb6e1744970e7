-- The tests of a line say what the relations say, and so whether its verdict is that it is accepted.
use Rattle.std.proofs.lemmas.{Bool.Decides.nat_tests, List.Elements.{All-nil, All-head, All-tail}}
use Rattle.std.proofs.Common.{◌≡◌, ℕ, Bool, true, false, List, [], ◌∷◌, map, Option, Some, None, refl, ap, ⊎_elim, arith, ◌↔◌, ◌==◌, ◌≢◌, ◌&&◌, ◌||◌, All, AllPairs, nat_le, nat_lt}
use Rattle.std.{proofs.lemmas.{List.Sums.{AllPass-from_list_all, list_all-from_AllPass}, Bool.{false≢true, or_cases, or_left, or_right, or_from, ne_eqb}}, specs.List.list_any}
use Rattle.list_laws.proofs.{Pairs.{no_pairs, pairs_head, pairs_tail}, Tests.same_test}
use Rattle.cnf_formula.specs.{Literals.LitValue, Lines.ProofLineValue, declared.line.LratLine.{LratLine, TheVariants.{Addition, Deletion}}}
use Rattle.proof_rules.specs.{Testing.{propagated, closes_one, has_number_twice, is_new, is_rup, are_resolved, is_rat, accepts}, Held.{CheckerValue, has_none}}
use Rattle.proof_rules.specs.{declared.verdict.LineVerdict.TheVariants.{Accepted as AcceptedVerdict, Refused}, Accepting.{Group, leading, groups_of, is_answered, IsNew, Implied, Redundant}}
use Rattle.proof_rules.specs.{declared.verdict.LineVerdict.LineVerdict, Judging.{verdict_of, verdict_on, is_accepted, is_implied}}
use Rattle.proof_rules.proofs.{Propagated.{conflict_by, by_conflict, leads_by, by_leading, answers_by, by_answering}, Verdicts.{implied_by, by_implied, redundant_by, by_redundant}}

-- ---- no two with one number

module _ {X : Type 0} (number : X → ℕ) where
  abbrev Apart : X → X → Type 0
  Apart a b = number a ≢ number b

  none_same : (n : ℕ) (xs : List X) → list_any (λ other. other == n) (map number xs) ≡ false → All (λ x. n ≢ number x) xs
  none_same n [] h = All-nil (λ x. n ≢ number x)
  none_same n (x ∷ xs) h = grind (arith, none_same n xs)

  same_none : (n : ℕ) (xs : List X) → All (λ x. n ≢ number x) xs → list_any (λ other. other == n) (map number xs) ≡ false
  same_none n [] all = refl
  same_none n (x ∷ xs) all = grind (arith, ne_eqb, All-head (λ x. n ≢ number x) x xs all, same_none n xs (All-tail (λ x. n ≢ number x) x xs all))

  apart_by : (xs : List X) → has_number_twice (map number xs) ≡ false → AllPairs Apart xs
  apart_by [] h = no_pairs Apart
  apart_by (x ∷ xs) h = grind (arith, none_same (number x) xs, apart_by xs)

  by_apart : (xs : List X) → AllPairs Apart xs → has_number_twice (map number xs) ≡ false
  by_apart [] p = refl
  by_apart (x ∷ xs) p =
      or_from (list_any (λ other. other == number x) (map number xs)) (has_number_twice (map number xs)) (same_none (number x) xs (pairs_head Apart x xs p)) (by_apart xs (pairs_tail Apart x xs p))

-- ---- a new number

abbrev in_range : ℕ → LitValue → Bool
in_range vars l = nat_lt 0 l.var && nat_le l.var vars

module _ (c : CheckerValue) (line : ProofLineValue) where
  new_by : is_new c line ≡ true → IsNew c line
  new_by h = grind (arith, AllPass-from_list_all (in_range c.formula.vars) line.lits, apart_by)

  by_new : IsNew c line → is_new c line ≡ true
  by_new n = grind (arith, list_all-from_AllPass (in_range c.formula.vars) line.lits, by_apart)

-- ---- RUP

no_groups : (groups : List Group) → has_none groups ≡ true → groups ≡ []
no_groups groups h = grind (arith, nat_tests)

pub rup_by : (c : CheckerValue) (line : ProofLineValue) → is_rup c line ≡ true → Implied c line
rup_by c line h = grind (arith, new_by c line, conflict_by c.held line.lits (leading line.hints))

pub by_rup : (c : CheckerValue) (line : ProofLineValue) → Implied c line → is_rup c line ≡ true
by_rup c line i = grind (arith, by_new c line i.new, by_conflict c.held line.lits (leading line.hints) i.conflict)

-- ---- RAT

module _ (c : CheckerValue) (line : ProofLineValue) where
  abbrev groups : List Group
  groups = groups_of line.hints

  abbrev ids : List ℕ
  ids = leading line.hints

  resolved_by : IsNew c line → (lits : List LitValue) (led : Option (Option (List LitValue))) → line.lits ≡ lits → propagated c.held line.lits ids ≡ led → are_resolved c.held groups lits led ≡ true → Redundant c line
  resolved_by new [] led is p h = absurd (false≢true h)
  resolved_by new (pivot ∷ rest) None is p h = absurd (false≢true h)
  resolved_by new (pivot ∷ rest) (Some None) is p h = absurd (false≢true h)
  resolved_by new (pivot ∷ rest) (Some (Some start)) is p h =
      grind (arith, AllPass-from_list_all (closes_one c.held pivot start) groups, leads_by c.held line.lits ids start p, answers_by c.held pivot start, apart_by, AllPass-from_list_all (is_answered pivot start groups) c.held)

  pub rat_by : is_rat c line ≡ true → Redundant c line
  rat_by h = grind (arith, nat_tests, resolved_by, new_by c line)

  pub by_rat : Redundant c line → is_rat c line ≡ true
  by_rat r = grind (arith, list_all-from_AllPass, by_answering, by_apart, by_new, by_leading)

pub rup_exactly : (c : CheckerValue) (line : ProofLineValue) → (is_rup c line ≡ true) ↔ Implied c line
rup_exactly c line = (rup_by c line, by_rup c line)

pub rat_exactly : (c : CheckerValue) (line : ProofLineValue) → (is_rat c line ≡ true) ↔ Redundant c line
rat_exactly c line = (rat_by c line, by_rat c line)

-- ---- verdicts

pub rup_said : (c : CheckerValue) (line : ProofLineValue) → is_rup c line ≡ is_implied (verdict_of c line)
rup_said c line = grind (arith, nat_tests, by_implied, rup_by, by_rup, implied_by)

accepted_said : (c : CheckerValue) (line : ProofLineValue) → (is_rup c line || is_rat c line) ≡ is_accepted (verdict_of c line)
accepted_said c line =
    same_test (is_rup c line || is_rat c line) (is_accepted (verdict_of c line))
    (λ h. ⊎_elim (λ e. ap is_accepted (by_implied c line (rup_by c line e))) (λ e. ap is_accepted (by_redundant c line (rat_by c line e))) (or_cases (is_rup c line) (is_rat c line) h))
    (λ h. go (verdict_of c line) refl h)
  where
    go : (v : LineVerdict) → verdict_of c line ≡ v → is_accepted v ≡ true → (is_rup c line || is_rat c line) ≡ true
    go (AcceptedVerdict true) e a = or_left (is_rup c line) (is_rat c line) (by_rup c line (implied_by c line e))
    go (AcceptedVerdict false) e a = or_right (is_rup c line) (is_rat c line) (by_rat c line (redundant_by c line e))
    go (Refused code hint) e a = absurd (false≢true a)

pub acceptance_said : (c : CheckerValue) (line : LratLine) → accepts c line ≡ is_accepted (verdict_on c line)
acceptance_said c (Addition line) = accepted_said c line
acceptance_said c (Deletion deletion) = grind arith

-- where no line of some literals has the verdict that it is implied, none is RUP
pub not_rup : (c : CheckerValue) (lits : List LitValue) → ((line : ProofLineValue) → line.lits ≡ lits → verdict_of c line ≡ AcceptedVerdict true → ⊥) → (line : ProofLineValue) → line.lits ≡ lits → is_rup c line ≡ true → ⊥
not_rup c lits none line e h = none line e (by_implied c line (rup_by c line h))
