-- The first of a numbered list that passes a test.
use Rattle.std.proofs.{Common.{◌≡◌, ℕ, ◌<◌, ◌≤◌, Bool, true, false, cond, ◌||◌, eqb, List, [], ◌∷◌, inl, inr, refl, sym, ap, ◌∙◌, ⊎_elim, arith, filter, count_by, All, AllPairs}, lemmas.Bool.{false≢true, cases_Bool, eqb-true, eq-eqb}}
use Rattle.std.{proofs.lemmas.{Bool.Decides.nat_tests, List.{Elements.All-contains, Kept.AllPairs-filter, FromFn.{length-enumerate_from, get_or-enumerate_from}}}, specs.List.{list_any, enumerate_from}}
use Rattle.schedule.proofs.First.{Among, any_among, Contains-from_Among}
use Rattle.send_encoding.{specs.Leading.leads, proofs.Orders.apart_once}

module _ {X : Type 0} (p : ℕ × X → Bool) where
  -- where some pass, one is the first, and leads alone
  led : (zs : List (ℕ × X)) → list_any p zs ≡ true → (z : ℕ × X) × Among z zs × (p z ≡ true) × ((e : ℕ) → leads p zs e ≡ eqb z.0 e)
  led [] h = absurd (false≢true h)
  led (z ∷ zs) h =
      ⊎_elim (λ (t : p z ≡ true). (z, inl refl, t, λ e. ap (λ b. cond b (eqb z.0 e) (leads p zs e)) t))
      (λ (f : p z ≡ false). let rest = led zs (ap (λ b. b || list_any p zs) (sym f) ∙ h) in (rest.0, inr rest.1, rest.2, λ e. ap (λ b. cond b (eqb z.0 e) (leads p zs e)) f ∙ rest.3 e))
      (cases_Bool (p z))

  leads_some : (zs : List (ℕ × X)) (e : ℕ) → leads p zs e ≡ true → list_any p zs ≡ true
  leads_some [] e h = h
  leads_some (z ∷ zs) e h = grind (arith, nat_tests, leads_some zs e)

  pub some_leads : (zs : List (ℕ × X)) → list_any p zs ≡ true → list_any (λ z. leads p zs z.0) zs ≡ true
  some_leads zs h = let it = led zs h in any_among (λ z. leads p zs z.0) it.0 zs it.1 (it.3 it.0.0 ∙ eq-eqb it.0.0 it.0.0 refl)

  -- the first passes, and is one of them
  pub leader : (Q : ℕ × X → Type 0) (zs : List (ℕ × X)) (e : ℕ) → All Q zs → leads p zs e ≡ true → (z : ℕ × X) × (z.0 ≡ e) × (p z ≡ true) × Q z
  leader Q zs e all h =
      let it = led zs (leads_some zs e h) in (it.0, eqb-true it.0.0 e (sym (it.3 e) ∙ h), it.2, All-contains Q zs it.0 all (Contains-from_Among it.0 zs it.1))

  pub one_leads : (zs : List (ℕ × X)) (e d : ℕ) → leads p zs e ≡ true → leads p zs d ≡ true → e ≡ d
  one_leads zs e d h k = let it = led zs (leads_some zs e h) in sym (eqb-true it.0.0 e (sym (it.3 e) ∙ h)) ∙ eqb-true it.0.0 d (sym (it.3 d) ∙ k)

-- numbers that differ pass a test of one number once
module _ {X : Type 0} (q : ℕ × X → Bool) (f : ℕ → Bool) where
  abbrev Ahead : ℕ × X → ℕ × X → Type 0
  Ahead y z = y.0 < z.0

  numbers_ascend : (k : ℕ) (xs : List X) → AllPairs Ahead (enumerate_from k xs)
  numbers_ascend k xs = grind (arith, length-enumerate_from, get_or-enumerate_from)

  pub passes_once : (k : ℕ) (xs : List X) → ((d e : ℕ) → f d ≡ true → f e ≡ true → d ≡ e) → count_by (λ z. f z.0) (filter q (enumerate_from k xs)) ≤ 1
  passes_once k xs only =
      apart_once Ahead (λ z. f z.0) (λ y z less t u. omega (arith, less, only y.0 z.0 t u)) (filter q (enumerate_from k xs)) (AllPairs-filter Ahead q (enumerate_from k xs) (numbers_ascend k xs))
